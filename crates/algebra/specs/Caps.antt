-- Numbers that stop at the cap: to stop early, before a sum or a product, changes nothing.
-- Assumes nothing.
use Rattle.std.specs.Prelude.{◌≡◌, ℕ, zero, suc, ◌+◌, ◌*◌, ◌≤◌, min}
use Rattle.std.proofs.Common.{sym, ap, ◌∙◌, mul_comm, mul_assoc, mul-add, mul-zero, arith}

abbrev pub cut : ℕ → ℕ
cut n = min n 4294967295

pub cut_sum : (a b : ℕ) → cut (cut a + b) ≡ cut (a + b)
cut_sum a b = omega arith

pub cut_sums : (a b : ℕ) → cut (cut a + cut b) ≡ cut (a + b)
cut_sums a b = omega arith

pub cut_assoc : (a b c : ℕ) → cut (cut (a + b) + c) ≡ cut (a + cut (b + c))
cut_assoc a b c = omega arith

pub cut_product : (a b : ℕ) → cut (cut a * b) ≡ cut (a * b)
cut_product a zero = rw (mul-zero (cut a), mul-zero a)
cut_product a (suc b) =
    let p : cut a ≤ cut a * suc b = omega arith in
    let q : a ≤ a * suc b = omega arith in
    grind arith

pub product_cut : (a b : ℕ) → cut (a * cut b) ≡ cut (a * b)
product_cut a b = ap cut (mul_comm a (cut b)) ∙ cut_product b a ∙ ap cut (mul_comm b a)

pub cut_product_assoc : (a b c : ℕ) → cut (cut (a * b) * c) ≡ cut (a * cut (b * c))
cut_product_assoc a b c = cut_product (a * b) c ∙ ap cut (mul_assoc a b c) ∙ sym (product_cut a (b * c))

pub cut_distributes : (a b c : ℕ) → cut (a * cut (b + c)) ≡ cut (cut (a * b) + cut (a * c))
cut_distributes a b c = product_cut a (b + c) ∙ ap cut (mul-add a b c) ∙ sym (cut_sums (a * b) (a * c))

pub cut_min_assoc : (a b c : ℕ) → cut (min (cut (min a b)) c) ≡ cut (min a (cut (min b c)))
cut_min_assoc a b c = omega arith

pub cut_min_distributes : (a b c : ℕ) → cut (a + cut (min b c)) ≡ cut (min (cut (a + b)) (cut (a + c)))
cut_min_distributes a b c = omega arith
