use Rattle.std.proofs.Common.{◌≡◌, ℕ, ◌+◌, ◌-◌, List, take, length, ap, ◌∙◌, subst, rules, arith}
use Rattle.std.specs.List.{enumerate_from, filter}
use Rattle.std.proofs.lemmas.List.{take_min}
use Rattle.figures.specs.Graph.{Parts}
use Rattle.figures.proofs.Settled.{names, parts_named}
use Rattle.forest.specs.Hanging.{newest, parents}
use Rattle.forest.specs.Laid.{laid, links_of}
use Rattle.forest.proofs.Chained.{reversed_parts}
use Rattle.forest.proofs.Hung.{length_parents}
use Rattle.forest.proofs.Numbered.{own, owns_few, owns_all, owns_root, owns_other, names_counted}
use Rattle.forest.proofs.trees.Forest.parts.Goals as goal
use Rattle.forest.proofs.trees.Forest.parts.Goals.{then-parent-slot, else-parent-slot}

pub loop-slot-init : goal.loop-slot-init
loop-slot-init c = omega arith

pub overflow_add-parts : goal.overflow_add-parts
overflow_add-parts c =
    let few = owns_few (take c.min-near.result c.args.self.now.parent) c.loop-slot.slot in
    search rules

pub loop-slot-preserved : goal.loop-slot-preserved
loop-slot-preserved c =
    let ps : List ℕ = take c.min-near.result c.args.self.now.parent in
    elim c.if-parent-slot.branch [
      | then-parent-slot w ↦
          w.parts-is
          ∙ omega (arith, c.loop-slot.invariant, owns_root ps c.loop-slot.slot c.loop-slot-test.true w.if-parent-slot.true)
      | else-parent-slot w ↦
          w.parts-is
          ∙ omega (arith, c.loop-slot.invariant, owns_other ps c.loop-slot.slot c.loop-slot-test.true w.if-parent-slot.false)
    ]

pub returns : goal.returns
returns c =
    let f = c.args.self.now in
    let ls = newest (laid f) in
    let near = c.min-near.result in
    let roots : c.loop-slot.parts ≡ c.args.slots - near + length (filter own (enumerate_from 0 (take near f.parent))) = omega (arith, c.loop-slot.invariant, owns_all (take near f.parent) c.loop-slot.slot c.loop-slot-test.false) in
    let read : take near f.parent ≡ take c.args.slots (parents ls) = ap (λ n. take n f.parent) (omega (arith, ap length f.grown, length_parents ls)) ∙ take_min c.args.slots f.parent ∙ ap (take c.args.slots) f.grown in
    let number : length (names c.args.slots ls) ≡ c.loop-slot.parts = omega (arith, names_counted ls f.kept.range c.args.slots, roots, ap (λ ps. length (filter own (enumerate_from 0 ps))) read) in
    subst (Parts c.args.slots (links_of f)) number (reversed_parts c.args.slots _ (links_of f) (parts_named c.args.slots ls))
