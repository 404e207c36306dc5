-- The algebra of the best keeps the laws.
-- Assumes nothing.
use Rattle.std.specs.Prelude.{◌≡◌, ℕ, ◌+◌, ◌*◌, ◌<◌, ◌≤◌, ◌==◌, min}
use Rattle.std.proofs.Common.{ap₂, ◌∙◌, add_comm, mul_comm, zero-add, one-mul, mul-pos, arith}
use Rattle.std.proofs.lemmas.Bool.Decides.{nat_tests}
use Rattle.algebra.specs.Semiring.{Laws}
use Rattle.algebra.specs.Best.{ranked, reaching, best_ops}
use Rattle.algebra.specs.declared.values.Best.{Best}
use Rattle.algebra.specs.Same.{same_best}
use Rattle.algebra.specs.Caps.{cut, cut_product_assoc, cut_distributes}
use Rattle.algebra.specs.BestSums.{live, sum_is, product_is, reaching_product}

sum_assoc : (x y z : Best) → best_ops.sum (best_ops.sum x y) z ≡ best_ops.sum x (best_ops.sum y z)
sum_assoc x y z =
    let p = sum_is x y in
    let q = sum_is y z in
    let l = sum_is (best_ops.sum x y) z in
    let r = sum_is x (best_ops.sum y z) in
    same_best _ _ (omega (arith, p.0, q.0, l.0, r.0)) (grind (arith, nat_tests))

sum_comm : (x y : Best) → best_ops.sum x y ≡ best_ops.sum y x
sum_comm x y =
    let l = sum_is x y in
    let r = sum_is y x in
    same_best _ _ (omega (arith, l.0, r.0)) (grind (arith, nat_tests))

sum_neutral : (x : Best) → best_ops.sum best_ops.zero x ≡ x
sum_neutral x =
    let l = sum_is best_ops.zero x in
    same_best _ _ (omega (arith, l.0, x.capped)) (grind (arith, nat_tests))

product_assoc : (x y z : Best) → best_ops.product (best_ops.product x y) z ≡ best_ops.product x (best_ops.product y z)
product_assoc x y z =
    let p = product_is x y in
    let q = product_is y z in
    let l = product_is (best_ops.product x y) z in
    let r = product_is x (best_ops.product y z) in
    let e = cut_product_assoc x.number y.number z.number in
    same_best _ _ (omega (arith, p.0, q.0, l.0, r.0)) (grind (arith, nat_tests))

pub ranked_own : (x : Best) → ranked x.cost x.number ≡ x
ranked_own x = same_best _ _ (grind (arith, nat_tests)) (grind (arith, nat_tests))

absorbs : (x : Best) → best_ops.product best_ops.zero x ≡ best_ops.zero
absorbs x = same_best _ _ (grind (arith, nat_tests)) (grind (arith, nat_tests))

distributes : (x y z : Best) → best_ops.product x (best_ops.sum y z) ≡ best_ops.sum (best_ops.product x y) (best_ops.product x z)
distributes x y z =
    let m : ℕ = min y.cost z.cost in
    let s = sum_is y z in
    let p = product_is x y in
    let q = product_is x z in
    let l = product_is x (best_ops.sum y z) in
    let r = sum_is (best_ops.product x y) (best_ops.product x z) in
    let e = cut_distributes x.number (reaching m y) (reaching m z) in
    let a = reaching_product x y m (omega arith) in
    let b = reaching_product x z m (omega arith) in
    same_best _ _ (omega (arith, s.0, p.0, q.0, l.0, r.0)) (grind (arith, nat_tests))

pub best_laws : Laws best_ops
best_laws = record {
  sums = record { assoc = sum_assoc; comm = sum_comm; neutral = sum_neutral };
  products = record {
    assoc = product_assoc;
    comm = λ x y. ap₂ ranked (add_comm x.cost y.cost) (mul_comm x.number y.number);
    neutral = λ x. ap₂ ranked (zero-add x.cost) (one-mul x.number) ∙ ranked_own x;
  };
  distributes = distributes;
  absorbs = absorbs;
}

-- the sum and the product case by case, and the weight of a cost
module _ (x y : Best) where
  pub sum_first : x.cost < y.cost → x ≡ best_ops.sum x y
  sum_first h = same_best _ _ (grind (arith, nat_tests)) (grind (arith, nat_tests))

  pub sum_second : y.cost < x.cost → y ≡ best_ops.sum x y
  sum_second h = same_best _ _ (grind (arith, nat_tests)) (grind (arith, nat_tests))

  pub sum_tied : x.cost ≡ y.cost → (z : Best) → z.cost ≡ x.cost → z.number ≡ cut (x.number + y.number) → z ≡ best_ops.sum x y
  sum_tied e z p q = same_best _ _ (grind (arith, nat_tests)) (grind (arith, nat_tests))

  pub product_none : 4294967295 ≤ x.cost + y.cost → (z : Best) → z.cost ≡ 4294967295 → z.number ≡ 0 → z ≡ best_ops.product x y
  product_none h z p q = same_best _ _ (grind (arith, nat_tests)) (grind (arith, nat_tests))

  pub product_some : x.cost + y.cost < 4294967295 → (z : Best) → z.cost ≡ x.cost + y.cost → z.number ≡ cut (x.number * y.number) → z ≡ best_ops.product x y
  product_some h z p q =
      let r = product_is x y in
      same_best _ _ (omega (arith, r.0)) (grind (arith, nat_tests))

  -- a product that has a cost is reached
  pub product_reached : (c n : ℕ) → c ≡ x.cost + y.cost → c < 4294967295 → n ≡ cut (x.number * y.number) → (c == 4294967295) ≡ (n == 0)
  product_reached c n e h f =
      let p : 0 < x.number * y.number = mul-pos (live x (omega arith)) (live y (omega arith)) in
      grind (arith, nat_tests)

pub weight_is : (c : ℕ) → c < 65536 → (z : Best) → z.cost ≡ c → z.number ≡ 1 → z ≡ ranked c 1
weight_is c h z p q = same_best _ _ (grind (arith, nat_tests)) (grind (arith, nat_tests))
