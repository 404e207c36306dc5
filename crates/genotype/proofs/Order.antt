-- The order of the pairs and the triangular rule: the pair (a, b) with a ≤ b stands at the place b(b+1)/2 + a.
use Rattle.std.proofs.Common.{◌≡◌, nat_lt, subst, ℕ, zero, suc, ◌+◌, ◌<◌, ◌≤◌, min, max, Some, sym, refl, ap, ap₂, ⊎_elim, le_refl, arith}
use Rattle.std.proofs.lemmas.Bool.{ltb-true, ltb-false, cond_both, cases_order, cases_lt}
use Rattle.std.proofs.lemmas.Bool.Decides.{nat_tests}
use Rattle.genotype.specs.Codes.{pairs_below, code_of, next, listed, pair_of}

-- one allele more
pairs_below_more : (b : ℕ) → pairs_below (suc b) ≡ pairs_below b + suc b
pairs_below_more b = omega arith

pub pairs_below_rises : (b n : ℕ) → b ≤ n → pairs_below b ≤ pairs_below n
pairs_below_rises b zero h = let z : b ≡ 0 = omega arith in rw z (le_refl 0)
pairs_below_rises b (suc n) h = ⊎_elim (λ e. rw e (le_refl _)) (λ l. omega (arith, pairs_below_rises b n (omega arith), pairs_below_more n)) (cases_order b (suc n))

-- the pair q stands at the place c
abbrev At : ℕ → ℕ × ℕ → Type 0
At c q = (q.0 ≤ q.1) × (pairs_below q.1 + q.0 ≡ c)

next_at : (c : ℕ) (p : ℕ × ℕ) → At c p → At (suc c) (next p)
next_at c p h =
    cond_both (nat_lt p.0 p.1) (p.0 + 1, p.1) (0, p.1 + 1) (At (suc c))
    (λ e. omega (arith, ltb-true p.0 p.1 e))
    (λ e. omega (arith, ltb-false p.0 p.1 e, pairs_below_more p.1))

-- at each place stands its pair
listed_at : (c : ℕ) → At c (listed c)
listed_at zero = (le_refl 0, refl)
listed_at (suc c) = next_at c (listed c) (listed_at c)

-- no pair with a smaller second allele stands as far
before : (a b x y : ℕ) → a ≤ b → b < y → pairs_below b + a < pairs_below y + x
before a b x y h l = omega (arith, pairs_below_more b, pairs_below_rises (suc b) y l)

-- at each place stands one pair alone
alone : (p : ℕ × ℕ) (a b : ℕ) → a ≤ b → At (pairs_below b + a) p → p ≡ (a, b)
alone p a b h s = ⊎_elim same (⊎_elim (λ l. absurd (omega (arith, before p.0 p.1 a b s.0 l))) (λ l. absurd (omega (arith, before a b p.0 p.1 h l)))) (cases_order p.1 b)
  where
    same : p.1 ≡ b → p ≡ (a, b)
    same e = let first : p.0 ≡ a = omega (arith, ap pairs_below e) in ap₂ (λ (m n : ℕ). (m, n)) first e

-- a pair found by its place is the code's pair, and has that code
pub pair_found : (a b code : ℕ) → a ≤ b → b ≤ 15 → pairs_below b + a ≡ code → Some (a, b) ≡ pair_of code
pair_found a b code h hb e =
    let here : At (pairs_below b + a) (listed code) = rw e (listed_at code) in
    let found : listed code ≡ (a, b) = alone (listed code) a b h here in
    let low : code ≤ 135 = omega (arith, pairs_below_rises b 15 hb) in
    grind (arith, nat_tests)

pub code_found : (a b code : ℕ) → a ≤ b → b ≤ 15 → pairs_below b + a ≡ code → code_of a b ≡ code
code_found a b code h hb e =
    let larger : max a b ≡ b = omega arith in
    let smaller : min a b ≡ a = omega arith in
    rw (larger, smaller) (grind (arith, nat_tests))

-- a code leads back to its two alleles
pub code_back : (a b code : ℕ) → code ≡ code_of a b → a ≤ 15 → b ≤ 15 → (code ≤ 135) × (pair_of code ≡ Some (min a b, max a b))
code_back a b code e ha hb =
    let is : code ≡ pairs_below (max a b) + min a b = grind (arith, nat_tests) in
    (omega (arith, pairs_below_rises (max a b) 15 (omega arith)), sym (pair_found (min a b) (max a b) code (omega arith) (omega arith) (sym is)))

-- what the pair of a code is
pub pair_is : (c a b : ℕ) → pair_of c ≡ Some (a, b) → (c ≤ 135) × (a ≤ b) × (b ≤ 15) × (code_of a b ≡ c)
pair_is c a b e =
    let low : c ≤ 135 = grind (arith, nat_tests) in
    let pair : listed c ≡ (a, b) = grind (arith, nat_tests) in
    let here : At c (a, b) = subst (At c) pair (listed_at c) in
    let top : b ≤ 15 = ⊎_elim (λ h. omega arith) (λ h. omega (arith, pairs_below_rises 16 b h)) (cases_lt b 16) in
    (low, here.0, top, code_found a b c here.0 top here.1)

-- two alleles whose code is a pair's code are that pair
pub code_is : (x y c : ℕ) → code_of x y ≡ c → c ≤ 135 → pair_of c ≡ Some (min x y, max x y)
code_is x y c e low =
    let top : max x y ≤ 15 = grind (arith, nat_tests) in
    (code_back x y c (sym e) (omega arith) (omega arith)).1
