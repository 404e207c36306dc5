use Rattle.std.proofs.Common.{◌≡◌, ◌+◌, ◌-◌, take}
use Rattle.forest.proofs.Numbered.{owns}
use Rattle.forest.proofs.trees.Forest.parts.Given as goal

-- the roots below the slot come to, and the slots past the last
abbrev pub invariant-loop-slot : goal.invariant-loop-slot
invariant-loop-slot l = l.parts ≡ l.slots - l.near + owns (take l.near l.self.parent) l.slot
