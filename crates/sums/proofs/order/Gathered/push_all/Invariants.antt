use Rattle.std.proofs.Common.{◌≡◌, ℕ, ◌||◌, take}
use Rattle.figures.specs.Graph.{has}
use Rattle.sums.specs.Gathering.{items}
use Rattle.sums.proofs.order.Gathered.push_all.Given as goal

abbrev pub invariant-loop-slot : goal.invariant-loop-slot
invariant-loop-slot l =
    (t : ℕ) → has (items l.self) t ≡ (has (items l.initial.self) t || has (take l.slot-index (items l.others)) t)
