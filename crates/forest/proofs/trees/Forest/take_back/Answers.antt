use Rattle.std.proofs.Common.{ap, ◌∙◌, rules}
use Rattle.forest.proofs.Undoing.{memory_less, grown_none, grown_root, hung_below}
use Rattle.forest.proofs.trees.Forest.take_back.Goals as goal
use Rattle.forest.proofs.trees.Forest.take_back.Goals.{in-Some, in_default}

pub offset_bounds-self-tie : goal.offset_bounds-self-tie
offset_bounds-self-tie c = let h = hung_below c.args.self.now c.requires c.in-Some.tie c.in-Some.is in search rules

pub bounds-self-tie : goal.bounds-self-tie
bounds-self-tie c = hung_below c.args.self.now c.requires c.in-Some.tie c.in-Some.is

pub invariant_of-self : goal.invariant_of-self
invariant_of-self c =
    let f = c.args.self.now in
    memory_less f c.requires _
    (elim c.match-self-last.branch [
      | in-Some w ↦ ap (λ m. m.1.0) w.self-is ∙ grown_root f c.requires w.in-Some.tie w.in-Some.is
      | in_default w ↦ ap (λ m. m.1.0) w.self-is ∙ grown_none f c.requires w.in_default.is
    ])
