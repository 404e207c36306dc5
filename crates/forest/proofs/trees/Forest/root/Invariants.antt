use Rattle.std.proofs.Common.{◌≡◌}
use Rattle.figures.proofs.Names.{name}
use Rattle.forest.specs.Hanging.{newest}
use Rattle.forest.specs.Laid.{laid}
use Rattle.forest.proofs.trees.Forest.root.Given as goal

-- the slot come to has the name of the slot asked for
abbrev pub invariant-loop-root : goal.invariant-loop-root
invariant-loop-root l = name (newest (laid l.self)) l.root ≡ name (newest (laid l.self)) l.slot

abbrev pub decreases-loop-root : goal.decreases-loop-root
decreases-loop-root l = l.root
