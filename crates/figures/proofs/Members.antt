-- What stands in a list, and lists in which nothing stands twice.
-- Assumes nothing.
use Rattle.std.proofs.Common.{◌≡◌, ℕ, zero, suc, ◌+◌, ◌<◌, ◌≤◌, Bool, true, false, cond, eqb, ◌⊎◌, List, [], ◌∷◌, ◌++◌, map, length, sym, refl, ap, ◌∙◌, subst, inl, inr, arith}
use Rattle.std.specs.List.{range_with_len, flat_map}
use Rattle.std.proofs.lemmas.Bool.{both_ways, cases_lt, false≢true, and_from, and_left, and_right, and_parts, or_cases, or_left, or_right, eqb-true, eq-eqb}
use Rattle.std.proofs.Math.Logic.{⊎_map}
use Rattle.figures.specs.Lists.{every, kept, In, Once}
use Rattle.figures.specs.Graph.{has}

module _ {X : Type 0} where
  pub in_left : (x : X) (xs ys : List X) → In x xs → In x (xs ++ ys)
  in_left x [] ys i = elim i [ ]
  in_left x (y ∷ xs) ys (inl e) = inl e
  in_left x (y ∷ xs) ys (inr i) = inr (in_left x xs ys i)

  pub in_right : (x : X) (xs ys : List X) → In x ys → In x (xs ++ ys)
  in_right x [] ys i = i
  in_right x (y ∷ xs) ys i = inr (in_right x xs ys i)

  pub in_append : (x : X) (xs ys : List X) → In x (xs ++ ys) → In x xs ⊎ In x ys
  in_append x [] ys i = inr i
  in_append x (y ∷ xs) ys (inl e) = inl (inl e)
  in_append x (y ∷ xs) ys (inr i) = ⊎_map inr (λ j. j) (in_append x xs ys i)

  pub in_kept : (p : X → Bool) (x : X) (xs : List X) → p x ≡ true → In x xs → In x (kept p xs)
  in_kept p x [] t i = elim i [ ]
  in_kept p x (y ∷ xs) t i = go (in_kept p x xs t) (p y) refl i
    where
      go : (In x xs → In x (kept p xs)) → (b : Bool) → p y ≡ b → (x ≡ y) ⊎ In x xs → In x (cond b (y ∷ kept p xs) (kept p xs))
      go tail true e (inl q) = inl q
      go tail true e (inr j) = inr (tail j)
      go tail false e (inl q) = absurd (both_ways (p y) e (ap p (sym q) ∙ t))
      go tail false e (inr j) = tail j

  pub kept_in : (p : X → Bool) (x : X) (xs : List X) → In x (kept p xs) → (p x ≡ true) × In x xs
  kept_in p x [] i = elim i [ ]
  kept_in p x (y ∷ xs) i = go (λ j. let r = kept_in p x xs j in (r.0, inr r.1)) (p y) refl i
    where
      go : (In x (kept p xs) → (p x ≡ true) × In x (y ∷ xs)) → (b : Bool) → p y ≡ b → In x (cond b (y ∷ kept p xs) (kept p xs)) → (p x ≡ true) × In x (y ∷ xs)
      go tail true e (inl q) = (ap p q ∙ e, inl q)
      go tail true e (inr j) = tail j
      go tail false e j = tail j

  pub once_kept : (p : X → Bool) (xs : List X) → Once xs → Once (kept p xs)
  once_kept p [] o = tt
  once_kept p (y ∷ xs) o = go (once_kept p xs o.1) (p y)
    where
      go : Once (kept p xs) → (b : Bool) → Once (cond b (y ∷ kept p xs) (kept p xs))
      go rest true = (λ i. o.0 (kept_in p y xs i).1, rest)
      go rest false = rest

  pub once_append : (xs ys : List X) → Once xs → Once ys → ((x : X) → In x xs → In x ys → ⊥) → Once (xs ++ ys)
  once_append [] ys o p d = p
  once_append (x ∷ xs) ys o p d =
      ((λ i. elim (in_append x xs ys i) [ inl j ↦ o.0 j | inr j ↦ d x (inl refl) j ]), once_append xs ys o.1 p (λ y i j. d y (inr i) j))

module _ {X Y : Type 0} where
  pub in_map : (f : X → Y) (x : X) (xs : List X) → In x xs → In (f x) (map f xs)
  in_map f x [] i = elim i [ ]
  in_map f x (y ∷ xs) (inl e) = inl (ap f e)
  in_map f x (y ∷ xs) (inr i) = inr (in_map f x xs i)

  pub map_in : (f : X → Y) (y : Y) (xs : List X) → In y (map f xs) → (x : X) × In x xs × (y ≡ f x)
  map_in f y [] i = elim i [ ]
  map_in f y (x ∷ xs) (inl e) = (x, inl refl, e)
  map_in f y (x ∷ xs) (inr i) = let r = map_in f y xs i in (r.0, inr r.1, r.2)

  pub once_map : (f : X → Y) → ((x z : X) → f x ≡ f z → x ≡ z) → (xs : List X) → Once xs → Once (map f xs)
  once_map f inj [] o = tt
  once_map f inj (x ∷ xs) o =
      (λ i. let r = map_in f (f x) xs i in o.0 (subst (λ z. In z xs) (sym (inj x r.0 r.2)) r.1), once_map f inj xs o.1)

  pub in_joined : (f : X → List Y) (x : X) (y : Y) (xs : List X) → In x xs → In y (f x) → In y (flat_map f xs)
  in_joined f x y [] j i = elim j [ ]
  in_joined f x y (z ∷ xs) (inl e) i = in_left y (f z) (flat_map f xs) (subst (λ t. In y (f t)) e i)
  in_joined f x y (z ∷ xs) (inr j) i = in_right y (f z) (flat_map f xs) (in_joined f x y xs j i)

  pub joined_in : (f : X → List Y) (y : Y) (xs : List X) → In y (flat_map f xs) → (x : X) × In x xs × In y (f x)
  joined_in f y [] i = elim i [ ]
  joined_in f y (z ∷ xs) i =
      elim (in_append y (f z) (flat_map f xs) i) [ inl j ↦ (z, inl refl, j) | inr j ↦ let r = joined_in f y xs j in (r.0, inr r.1, r.2) ]

  pub once_joined : (f : X → List Y) → ((x : X) → Once (f x)) → ((x z : X) (y : Y) → In y (f x) → In y (f z) → x ≡ z) → (xs : List X) → Once xs → Once (flat_map f xs)
  once_joined f each apart [] o = tt
  once_joined f each apart (x ∷ xs) o =
      once_append (f x) (flat_map f xs) (each x) (once_joined f each apart xs o.1)
      (λ y i j. let r = joined_in f y xs j in o.0 (subst (λ z. In z xs) (sym (apart x r.0 y i r.2)) r.1))

pub counting_in : (a n x : ℕ) → In x (range_with_len a n) → (a ≤ x) × (x < a + n)
counting_in a zero x i = elim i [ ]
counting_in a (suc n) x (inl e) = (omega arith, omega arith)
counting_in a (suc n) x (inr i) = let r = counting_in (a + 1) n x i in (omega arith, omega arith)

pub in_counting : (a n x : ℕ) → a ≤ x → x < a + n → In x (range_with_len a n)
in_counting a zero x h l = absurd (omega arith)
in_counting a (suc n) x h l =
    elim (cases_lt a x) [ inl p ↦ inr (in_counting (a + 1) n x (omega arith) (omega arith)) | inr p ↦ inl (omega arith) ]

pub once_counting : (a n : ℕ) → Once (range_with_len a n)
once_counting a zero = tt
once_counting a (suc n) = (λ i. let r = counting_in (a + 1) n a i in omega arith, once_counting (a + 1) n)

-- the list without one place of it
module _ {X : Type 0} (y : X) where
  unfoldable pub without : (ys : List X) → In y ys → List X
  without [] i = elim i [ ]
  without (z ∷ zs) (inl e) = zs
  without (z ∷ zs) (inr i) = z ∷ without zs i

  pub length_without : (ys : List X) (i : In y ys) → length ys ≡ suc (length (without ys i))
  unfolding without
  length_without [] i = elim i [ ]
  length_without (z ∷ zs) (inl e) = refl
  length_without (z ∷ zs) (inr i) = ap suc (length_without zs i)

  pub in_without : (x : X) (ys : List X) (i : In y ys) → In x ys → (x ≡ y) ⊎ In x (without ys i)
  unfolding without
  in_without x [] i j = elim i [ ]
  in_without x (z ∷ zs) (inl e) (inl q) = inl (q ∙ sym e)
  in_without x (z ∷ zs) (inl e) (inr j) = inr j
  in_without x (z ∷ zs) (inr i) (inl q) = inr (inl q)
  in_without x (z ∷ zs) (inr i) (inr j) = ⊎_map (λ e. e) inr (in_without x zs i j)

-- what is left of a list in which nothing stands twice is the rest of it
module _ {X : Type 0} (y : X) where
  pub in_whole : (x : X) (ys : List X) (i : In y ys) → In x (without y ys i) → In x ys
  unfolding without
  in_whole x [] i j = elim i [ ]
  in_whole x (z ∷ zs) (inl e) j = inr j
  in_whole x (z ∷ zs) (inr i) (inl q) = inl q
  in_whole x (z ∷ zs) (inr i) (inr j) = inr (in_whole x zs i j)

  pub not_left : (ys : List X) (i : In y ys) → Once ys → In y (without y ys i) → ⊥
  unfolding without
  not_left [] i o j = elim i [ ]
  not_left (z ∷ zs) (inl e) o j = o.0 (subst (λ t. In t zs) e j)
  not_left (z ∷ zs) (inr i) o (inl q) = o.0 (subst (λ t. In t zs) q i)
  not_left (z ∷ zs) (inr i) o (inr j) = not_left zs i o.1 j

  pub once_without : (ys : List X) (i : In y ys) → Once ys → Once (without y ys i)
  unfolding without
  once_without [] i o = elim i [ ]
  once_without (z ∷ zs) (inl e) o = o.1
  once_without (z ∷ zs) (inr i) o = (λ j. o.0 (in_whole z zs i j), once_without zs i o.1)

module _ {X : Type 0} (f : X → Bool) where
  pub every_from : (xs : List X) → ((x : X) → In x xs → f x ≡ true) → every f xs ≡ true
  every_from [] h = refl
  every_from (x ∷ xs) h = and_from (f x) (every f xs) (h x (inl refl)) (every_from xs (λ y i. h y (inr i)))

  pub every_not : (x : X) (xs : List X) → In x xs → f x ≡ false → every f xs ≡ false
  every_not x [] i e = elim i [ ]
  every_not x (y ∷ xs) (inl q) e = and_left (f y) (every f xs) (ap f (sym q) ∙ e)
  every_not x (y ∷ xs) (inr i) e = and_right (f y) (every f xs) (every_not x xs i e)

  pub every_at : (x : X) (xs : List X) → every f xs ≡ true → In x xs → f x ≡ true
  every_at x [] t i = elim i [ ]
  every_at x (y ∷ xs) t (inl q) = ap f q ∙ (and_parts (f y) (every f xs) t).0
  every_at x (y ∷ xs) t (inr i) = every_at x xs (and_parts (f y) (every f xs) t).1 i

pub has_in : (ss : List ℕ) (s : ℕ) → has ss s ≡ true → In s ss
has_in [] s e = absurd (false≢true e)
has_in (t ∷ ss) s e = ⊎_map (eqb-true s t) (has_in ss s) (or_cases (eqb s t) (has ss s) e)

pub in_has : (ss : List ℕ) (s : ℕ) → In s ss → has ss s ≡ true
in_has [] s i = elim i [ ]
in_has (t ∷ ss) s (inl q) = or_left (eqb s t) (has ss s) (eq-eqb s t q)
in_has (t ∷ ss) s (inr i) = or_right (eqb s t) (has ss s) (in_has ss s i)

-- where each element of one list has a partner in another, and no two share one, the first is not longer
pub no_more : {X Y : Type 0} (R : X → Y → Type 0) (xs : List X) (ys : List Y) → ((x z : X) (y : Y) → In x xs → In z xs → R x y → R z y → x ≡ z) → Once xs → ((x : X) → In x xs → (y : Y) × In y ys × R x y) → length xs ≤ length ys
no_more R [] ys apart o partner = omega arith
no_more {X} {Y} R (x ∷ xs) ys apart o partner =
    let p = partner x (inl refl) in
    let rest = no_more R xs (without p.0 ys p.1) (λ a b c h k. apart a b c (inr h) (inr k)) o.1 (λ z j. choose p z j (partner z (inr j))) in
    omega (arith, length_without p.0 ys p.1, rest)
  where
    choose : (p : (y : Y) × In y ys × R x y) (z : X) → In z xs → (t : Y) × In t ys × R z t → (t : Y) × In t (without p.0 ys p.1) × R z t
    choose p z j q =
        elim (in_without p.0 q.0 ys p.1 q.1) [
          | inl e ↦ absurd (o.0 (subst (λ w. In w xs) (apart z x p.0 (inr j) (inl refl) (subst (R z) e q.2) p.2) j))
          | inr k ↦ (q.0, k, q.2)
        ]
