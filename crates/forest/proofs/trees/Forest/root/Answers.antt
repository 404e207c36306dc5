use Rattle.std.proofs.Common.{◌≡◌, ℕ, ◌≤◌, get_or, sym, ap, ◌∙◌, arith}
use Rattle.figures.proofs.Names.{name}
use Rattle.forest.specs.declared.trees.Forest.{Forest}
use Rattle.forest.specs.Hanging.{newest, parents}
use Rattle.forest.specs.Laid.{laid, links_of}
use Rattle.forest.proofs.Chained.{name_root, roots_tell}
use Rattle.forest.proofs.Hung.{parent_le, parent_name, root_named}
use Rattle.forest.proofs.trees.Forest.root.Goals as goal

-- what the memory keeps of the parent of a slot
module _ (f : Forest) (s : ℕ) where
  grown : get_or f.parent s s ≡ get_or (parents (newest (laid f))) s s
  grown = ap (λ ps. get_or ps s s) f.grown

  below : get_or f.parent s s ≤ s
  below = omega (arith, grown, parent_le (newest (laid f)) s f.kept.range)

  same_name : name (newest (laid f)) (get_or f.parent s s) ≡ name (newest (laid f)) s
  same_name = ap (name (newest (laid f))) grown ∙ parent_name (newest (laid f)) s f.kept.range

  own_name : get_or f.parent s s ≡ s → name (newest (laid f)) s ≡ s
  own_name e = root_named (newest (laid f)) s f.kept.range (sym grown ∙ e)

pub returns : goal.returns
returns c =
    let f = c.args.self.now in
    let l = c.loop-root in
    let root = name_root (links_of f) c.args.slot l.root (sym l.invariant ∙ own_name f l.root (omega (arith, c.parent_of.ensures))) in
    record { joined = root.0; lowest = root.1; same = roots_tell (links_of f) c.args.slot l.root root }

pub loop-root-preserved : goal.loop-root-preserved
loop-root-preserved c =
    let f = c.args.self.now in
    ap (name (newest (laid f))) c.parent_of-root.ensures ∙ same_name f c.loop-root.root ∙ c.loop-root.invariant

pub loop-root-smaller : goal.loop-root-smaller
loop-root-smaller c = omega (arith, below c.args.self.now c.loop-root.root, c.parent_of.ensures, c.parent_of-root.ensures)
