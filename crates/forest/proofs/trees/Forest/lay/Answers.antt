use Rattle.std.proofs.Common.{◌≡◌, ℕ, ◌<◌, true, length, sym, refl, ◌∙◌, arith}
use Rattle.std.proofs.lemmas.Bool.{and_from, lt-ltb, cond-true}
use Rattle.forest.specs.Entries.{in_range}
use Rattle.forest.specs.Laid.{laid, links_of, has_room}
use Rattle.forest.proofs.Chained.{root_name}
use Rattle.forest.proofs.Growing.{memory_some, persons_laid}
use Rattle.forest.proofs.trees.Forest.lay.Goals as goal

range_of : (l : ℕ × ℕ) → l.0 < 64 → l.1 < 64 → in_range l ≡ true
range_of l h k = and_from _ _ (lt-ltb l.0 64 h) (lt-ltb l.1 64 k)

pub invariant_of-self : goal.invariant_of-self
invariant_of-self c =
    let f = c.args.self.now in
    let x = root_name (links_of f) _ c.root-maternal.result (c.root-maternal.ensures.joined, c.root-maternal.ensures.lowest) in
    let y = root_name (links_of f) _ c.root-paternal.result (c.root-paternal.ensures.joined, c.root-paternal.ensures.lowest) in
    memory_some f (omega arith) c.args.slots _ c.root-maternal.result c.root-paternal.result _ _ (range_of c.args.slots (omega arith) (omega arith)) x y (omega arith) (omega arith) refl (omega arith)

pub returns-clause-answer : goal.returns-clause-answer
returns-clause-answer c =
    let es = laid c.args.self.now in
    let room : has_room es ≡ true = lt-ltb (length es) 64 (omega (arith, persons_laid c.args.self.now)) in
    sym (cond-true (has_room es) _ _ room ∙ cond-true (in_range c.args.slots) _ _ (range_of c.args.slots (omega arith) (omega arith)))
