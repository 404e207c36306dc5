-- The maps from counts to truth and from the best to least costs carry zero, one, sums, products and weights.
-- Assumes nothing.
use Rattle.std.proofs.Common.{◌≡◌, nat_lt, ℕ, ◌+◌, ◌*◌, ◌&&◌, ◌||◌, refl, ap, mul-pos, arith}
use Rattle.std.proofs.lemmas.Bool.Decides.{nat_tests}
use Rattle.algebra.specs.Best.{best_ops}
use Rattle.algebra.specs.Carried.{any_of, least_of}
use Rattle.algebra.specs.Count.{count_ops}
use Rattle.algebra.specs.Least.{least_ops}
use Rattle.algebra.specs.Maps.{Carries}
use Rattle.algebra.specs.Truth.{told, truth_ops}
use Rattle.algebra.specs.Same.{same_least}
use Rattle.algebra.specs.Caps.{cut}
use Rattle.algebra.specs.BestSums.{sum_is, product_is}

some_sum : (a b : ℕ) → nat_lt 0 (cut (a + b)) ≡ (nat_lt 0 a || nat_lt 0 b)
some_sum a b = grind (arith, nat_tests)

some_product : (a b : ℕ) → nat_lt 0 (cut (a * b)) ≡ (nat_lt 0 a && nat_lt 0 b)
some_product a b = grind (arith, nat_tests, mul-pos)

pub any_carries : Carries count_ops truth_ops any_of
any_carries = record {
  zero = refl;
  one = refl;
  sum = λ x y. ap told (some_sum x.number y.number);
  product = λ x y. ap told (some_product x.number y.number);
  weight = λ c h. refl;
}

pub least_carries : Carries best_ops least_ops least_of
least_carries = record {
  zero = refl;
  one = refl;
  sum = λ x y. same_least _ _ (omega (arith, (sum_is x y).0));
  product = λ x y. same_least _ _ (omega (arith, (product_is x y).0));
  weight = λ c h. same_least _ _ (grind (arith, nat_tests));
}
