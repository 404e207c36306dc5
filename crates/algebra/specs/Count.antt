-- The algebra of counts: numbers are added and multiplied, and stop at the cap 4294967295; every allele weighs 1.
-- Assumes nothing.
use Rattle.std.specs.Prelude.{ℕ, ◌+◌, ◌*◌, min}
use Rattle.std.proofs.Math.Nat.{min-le_right}
use Rattle.algebra.specs.Semiring.{Ops}
use Rattle.algebra.specs.declared.values.Count.{Count}

-- n, or the cap where n is above it
abbrev pub counted : ℕ → Count
counted n = record { number = min n 4294967295; capped = min-le_right n 4294967295 }

abbrev pub count_ops : Ops Count
count_ops = record {
  zero = counted 0;
  one = counted 1;
  sum = λ x y. counted (x.number + y.number);
  product = λ x y. counted (x.number * y.number);
  weight = λ c. counted 1;
}
