-- What the sum and the product of two bests cost, and how often they reach it.
-- Assumes nothing.
use Rattle.std.specs.Prelude.{◌≡◌, ℕ, ◌+◌, ◌*◌, ◌<◌, ◌≤◌, min, if◌then◌else◌, nat_lt}
use Rattle.std.proofs.Common.{mul-pos, arith}
use Rattle.std.proofs.lemmas.Bool.Decides.{nat_tests}
use Rattle.algebra.specs.Best.{ranked, reaching, best_ops}
use Rattle.algebra.specs.declared.values.Best.{Best}
use Rattle.algebra.specs.Caps.{cut}

-- a cost below the cap is reached
pub live : (x : Best) → x.cost < 4294967295 → 0 < x.number
live x h = grind (arith, nat_tests)

-- no cost is reached not once
pub dead : (x : Best) → 4294967295 ≤ x.cost → x.number ≡ 0
dead x h = grind (arith, nat_tests)

module _ (c n : ℕ) where
  pub ranked_live : c < 4294967295 → 0 < n → ((ranked c n).cost ≡ c) × ((ranked c n).number ≡ cut n)
  ranked_live h p = (grind (arith, nat_tests), grind (arith, nat_tests))

  pub ranked_dead : 4294967295 ≤ c → ((ranked c n).cost ≡ 4294967295) × ((ranked c n).number ≡ 0)
  ranked_dead h = (grind (arith, nat_tests), grind (arith, nat_tests))

pub reaching_own : (x : Best) (c : ℕ) → x.cost ≡ c → reaching c x ≡ x.number
reaching_own x c e = grind (arith, nat_tests)

pub reaching_less : (x : Best) (c : ℕ) → c < x.cost → reaching c x ≡ 0
reaching_less x c h = grind (arith, nat_tests)

module _ (x y : Best) where
  pub sum_is : ((best_ops.sum x y).cost ≡ min x.cost y.cost) × ((best_ops.sum x y).number ≡ cut (reaching (min x.cost y.cost) x + reaching (min x.cost y.cost) y))
  sum_is = (grind (arith, nat_tests), grind (arith, nat_tests))

  pub product_is : ((best_ops.product x y).cost ≡ cut (x.cost + y.cost)) × ((best_ops.product x y).number ≡ (if nat_lt (x.cost + y.cost) 4294967295 then cut (x.number * y.number) else 0))
  product_is = (grind (arith, nat_tests, mul-pos, live), grind (arith, nat_tests, mul-pos, live))

  -- how often a sum reaches a cost that neither of its parts undercuts
  pub reaching_sum : (d : ℕ) → d ≤ min x.cost y.cost → reaching d (best_ops.sum x y) ≡ cut (reaching d x + reaching d y)
  reaching_sum d h = grind (arith, nat_tests, sum_is)

  -- how often a product reaches the first's cost and a cost that the second does not undercut
  pub reaching_product : (d : ℕ) → d ≤ y.cost → x.cost + d < 4294967295 → reaching (x.cost + d) (best_ops.product x y) ≡ cut (x.number * reaching d y)
  reaching_product d h l = grind (arith, nat_tests, product_is)
