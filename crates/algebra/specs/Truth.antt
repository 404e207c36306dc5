-- The algebra of truth: the sum is `or`, the product is `and`, and every allele weighs yes.
-- Assumes nothing.
use Rattle.std.specs.Prelude.{Bool, true, false, ◌&&◌, ◌||◌}
use Rattle.algebra.specs.Semiring.{Ops}
use Rattle.algebra.specs.declared.values.Truth.{Truth}

abbrev pub told : Bool → Truth
told b = record { yes = b }

abbrev pub truth_ops : Ops Truth
truth_ops = record {
  zero = told false;
  one = told true;
  sum = λ x y. told (x.yes || y.yes);
  product = λ x y. told (x.yes && y.yes);
  weight = λ c. told true;
}
