-- The algebra of least costs: the sum is the smaller, the product adds and stops at the cap 4294967295, which means that there is no cost;
-- an allele weighs its cost.
-- Assumes nothing.
use Rattle.std.specs.Prelude.{ℕ, ◌+◌, min}
use Rattle.std.proofs.Math.Nat.{min-le_right}
use Rattle.algebra.specs.Semiring.{Ops}
use Rattle.algebra.specs.declared.values.Least.{Least}

-- the cost n, or none where n reaches the cap
abbrev pub costing : ℕ → Least
costing n = record { cost = min n 4294967295; capped = min-le_right n 4294967295 }

abbrev pub least_ops : Ops Least
least_ops = record {
  zero = costing 4294967295;
  one = costing 0;
  sum = λ x y. costing (min x.cost y.cost);
  product = λ x y. costing (x.cost + y.cost);
  weight = λ c. costing c;
}
