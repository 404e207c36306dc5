-- Slots below 64, none twice: there are at most 64, and one more may be pushed.
-- Assumes nothing.
use Rattle.std.proofs.Common.{◌≡◌, ℕ, ◌+◌, ◌<◌, ◌≤◌, true, false, not, ◌&&◌, ltb, ◌⊎◌, List, [], ◌∷◌, ◌++◌, length, get_or, replicate, sym, refl, ◌∙◌, subst, inl, inr, ⊎_elim, arith}
use Rattle.std.specs.List.{range_with_len}
use Rattle.std.proofs.lemmas.List.{get_or-replicate, get_or_past, length-replicate}
use Rattle.std.proofs.lemmas.List.FromFn.{length-range_with_len}
use Rattle.std.proofs.lemmas.Bool.{and_parts, and_from, and_right, not_from_true, cond-true, cond-false, cases_Bool, cases_lt, not-true, not_from_false, lt-ltb, ltb-true, both_ways}
use Rattle.figures.specs.Lists.{every, In, Once}
use Rattle.figures.specs.Graph.{has}
use Rattle.figures.proofs.Members.{in_append, in_counting, once_append, every_from, every_at, has_in, in_has, no_more}
use Rattle.sums.specs.Ordered.{distinct, lawful, pushed}

pub has_not : (ss : List ℕ) (s : ℕ) → has ss s ≡ false → In s ss → ⊥
has_not ss s e i = both_ways (has ss s) e (in_has ss s i)

not_has : (ss : List ℕ) (s : ℕ) → (In s ss → ⊥) → has ss s ≡ false
not_has ss s out = go (cases_Bool (has ss s))
  where
    go : (has ss s ≡ true) ⊎ (has ss s ≡ false) → has ss s ≡ false
    go (inl e) = absurd (out (has_in ss s e))
    go (inr e) = e

distinct_once : (ss : List ℕ) → distinct ss ≡ true → Once ss
distinct_once [] e = tt
distinct_once (s ∷ ss) e =
    let p = and_parts (not (has ss s)) (distinct ss) e in
    (has_not ss s (not-true (has ss s) p.0), distinct_once ss p.1)

once_distinct : (ss : List ℕ) → Once ss → distinct ss ≡ true
once_distinct [] o = refl
once_distinct (s ∷ ss) o =
    and_from (not (has ss s)) (distinct ss) (not_from_false (has ss s) (not_has ss s o.0)) (once_distinct ss o.1)

module _ (ss : List ℕ) (law : lawful ss ≡ true) where
  pub lawful_once : Once ss
  lawful_once = distinct_once ss (and_parts (distinct ss) (every (λ s. ltb s 64) ss) law).0

  pub lawful_below : (s : ℕ) → In s ss → s < 64
  lawful_below s i =
      ltb-true s 64 (every_at (λ t. ltb t 64) s ss (and_parts (distinct ss) (every (λ t. ltb t 64) ss) law).1 i)

  pub lawful_few : length ss ≤ 64
  lawful_few =
      let h = no_more (λ x y. x ≡ y) ss (range_with_len 0 64) (λ x z y i j p q. p ∙ sym q) lawful_once (λ x i. (x, in_counting 0 64 x (omega arith) (omega (arith, lawful_below x i)), refl)) in
      omega (arith, h, length-range_with_len 0 64)

  module _ (s : ℕ) (small : s < 64) (new : has ss s ≡ false) where
    -- there is room for a slot that is not there yet
    pub room : length ss < 64
    room =
        let h = no_more (λ x y. x ≡ y) (s ∷ ss) (range_with_len 0 64) (λ x z y i j p q. p ∙ sym q) (has_not ss s new, lawful_once) (λ x i. (x, in_counting 0 64 x (omega arith) (below x i), refl)) in
        omega (arith, h, length-range_with_len 0 64)
      where
        below : (x : ℕ) → (x ≡ s) ⊎ In x ss → x < 0 + 64
        below x (inl e) = omega arith
        below x (inr i) = omega (arith, lawful_below x i)

    pub lawful_push : lawful (ss ++ s ∷ []) ≡ true
    lawful_push =
        and_from (distinct (ss ++ s ∷ [])) (every (λ t. ltb t 64) (ss ++ s ∷ []))
        (once_distinct (ss ++ s ∷ []) (once_append ss (s ∷ []) lawful_once ((λ i. i), tt) apart))
        (every_from (λ t. ltb t 64) (ss ++ s ∷ []) (λ t i. lt-ltb t 64 (below t (in_append t ss (s ∷ []) i))))
      where
        apart : (x : ℕ) → In x ss → In x (s ∷ []) → ⊥
        apart x i (inl e) = has_not ss s new (subst (λ t. In t ss) e i)
        apart x i (inr j) = j

        below : (t : ℕ) → In t ss ⊎ In t (s ∷ []) → t < 64
        below t (inl i) = lawful_below t i
        below t (inr (inl e)) = omega arith
        below t (inr (inr j)) = elim j [ ]

pub pushed_new : (ss : List ℕ) (s : ℕ) → s < 64 → has ss s ≡ false → ss ++ s ∷ [] ≡ pushed ss s
pushed_new ss s small new =
    sym (cond-true (ltb s 64 && not (has ss s)) (ss ++ s ∷ []) ss (and_from (ltb s 64) (not (has ss s)) (lt-ltb s 64 small) (not_from_false (has ss s) new)))

pub pushed_old : (ss : List ℕ) (s : ℕ) → has ss s ≡ true → ss ≡ pushed ss s
pushed_old ss s old = sym (cond-false (ltb s 64 && not (has ss s)) (ss ++ s ∷ []) ss (and_right (ltb s 64) (not (has ss s)) (not_from_true (has ss s) old)))

-- memory that holds one thing throughout has it at every place, and past its end by default
pub blank : {X : Type 0} (n i : ℕ) (x : X) → get_or (replicate n x) i x ≡ x
blank n i x = ⊎_elim (λ h. get_or-replicate n i x x h) (λ h. get_or_past (replicate n x) i x (omega (arith, length-replicate n x))) (cases_lt i n)
