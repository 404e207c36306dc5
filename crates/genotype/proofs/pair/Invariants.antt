use Rattle.std.proofs.Common.{◌≡◌, ◌+◌, ◌≤◌}
use Rattle.genotype.specs.Codes.{pairs_below}
use Rattle.genotype.proofs.pair.Given as goal

abbrev pub invariant-loop-larger : goal.invariant-loop-larger
invariant-loop-larger l = (pairs_below l.larger + l.smaller ≡ l.code) × (l.larger ≤ 15)

abbrev pub decreases-loop-larger : goal.decreases-loop-larger
decreases-loop-larger l = l.smaller
