-- The search gives up only where nothing can be found, and finds all else.
-- Assumes nothing.
use Rattle.std.proofs.Common.{◌≡◌, ℕ, ◌+◌, ◌<◌, Bool, true, false, not, ◌&&◌, ◌||◌, eqb, ◌⊎◌, List, [], ◌∷◌, ◌++◌, length, get_or, set, is_some, Some, None, Option, unwrap_or, sym, refl, ap, ◌∙◌, subst, ap₂, inl, inr, append_assoc, arith}
use mathlib.Core.Path.{fun_ext}
use Rattle.std.specs.List.{range_with_len}
use Rattle.std.proofs.lemmas.List.{get_or-set_same, get_or-set_other, append-nil}
use Rattle.std.proofs.lemmas.Bool.{cases_eq, cases_Bool, both_ways, true≢false, false≢true, eqb-false, or_parts}
use Rattle.algebra.specs.Semiring.{Ops, Laws}
use Rattle.readings.specs.declared.class.Class.{Class}
use Rattle.readings.specs.declared.class.Class.TheVariants.{Silent}
use Rattle.figures.specs.Lists.{fold, every, In, Once}
use Rattle.figures.specs.Locus.{Reading, loud}
use Rattle.figures.specs.Graph.{own}
use Rattle.figures.specs.View.{reading_of, readings_of}
use Rattle.figures.proofs.Factored.{own_in, in_own, not_loud, once_apart}
use Rattle.figures.proofs.Folds.{fold_counting_more, neutral_right}
use Rattle.figures.proofs.Members.{in_left, in_right, in_append, in_counting, counting_in, every_from, every_not, every_at}
use Rattle.figures.proofs.Placed.{fits_at}
use Rattle.figures.proofs.Searched.{searched, searched_dead}
use Rattle.figures.proofs.SlotSums.{update, update_same, update_other, absorbs_right}
use Rattle.sums.specs.Searching.{Searching, Inside, env, is_set, agrees, pair_of, passes_at, fits_order}
use Rattle.sums.specs.Seen.{told}
use Rattle.sums.specs.declared.slots.Held.{Held}
use Rattle.sums.proofs.Views.{told_at, reading_in, in_reading}

-- a write sets one allele
pub env_set : (xs : List (Option ℕ)) (s a : ℕ) → s < length xs → env (set xs s (Some a)) ≡ update (env xs) s a
env_set xs s a h = fun_ext (λ t. go t (cases_eq t s))
  where
    go : (t : ℕ) → (t ≡ s) ⊎ (t ≡ s → ⊥) → env (set xs s (Some a)) t ≡ update (env xs) s a t
    go t (inl e) =
        ap (env (set xs s (Some a))) e ∙ ap (λ x. unwrap_or x 0) (get_or-set_same xs s (Some a) None h) ∙ sym (ap (update (env xs) s a) e ∙ update_same (env xs) s a)
    go t (inr ne) = ap (λ x. unwrap_or x 0) (get_or-set_other xs s t (Some a) None ne) ∙ sym (update_other (env xs) s a t ne)

is_set_same : (xs : List (Option ℕ)) (s a : ℕ) → s < length xs → is_set (set xs s (Some a)) s ≡ true
is_set_same xs s a h = ap is_some (get_or-set_same xs s (Some a) None h)

is_set_other : (xs : List (Option ℕ)) (s a t : ℕ) → (t ≡ s → ⊥) → is_set (set xs s (Some a)) t ≡ is_set xs t
is_set_other xs s a t ne = ap is_some (get_or-set_other xs s t (Some a) None ne)

-- two alleles that are set agree exactly if they fit
agree_set : (fit : ℕ → ℕ → Bool) (x y : Option ℕ) → is_some x ≡ true → is_some y ≡ true → agrees fit x y ≡ fit (unwrap_or x 0) (unwrap_or y 0)
agree_set fit (Some a) (Some b) p q = refl
agree_set fit (Some a) None p q = absurd (false≢true q)
agree_set fit None y p q = absurd (false≢true p)

disagree : (fit : ℕ → ℕ → Bool) (x y : Option ℕ) → agrees fit x y ≡ false → (is_some x ≡ true) × (is_some y ≡ true)
disagree fit (Some a) (Some b) e = (refl, refl)
disagree fit (Some a) None e = absurd (true≢false e)
disagree fit None y e = absurd (true≢false e)

-- a test that does not pass everywhere fails somewhere
some_fails : {X : Type 0} (f : X → Bool) (xs : List X) → every f xs ≡ false → (x : X) × In x xs × (f x ≡ false)
some_fails f [] e = absurd (true≢false e)
some_fails f (x ∷ xs) e = go (λ q. some_fails f xs q) (cases_Bool (f x))
  where
    go : (every f xs ≡ false → (y : _) × In y xs × (f y ≡ false)) → (f x ≡ true) ⊎ (f x ≡ false) → (y : _) × In y (x ∷ xs) × (f y ≡ false)
    go ih (inr q) = (x, inl refl, q)
    go ih (inl q) = let r = ih (sym (ap (λ b. b && every f xs) q) ∙ e) in (r.0, inr r.1, r.2)

module _ (h : Held) (class : ℕ → Class) (fits : ℕ → ℕ → ℕ → Bool) (done : List ℕ) (xs : List (Option ℕ)) where
  -- at the end everything fits
  pub all_fit : (left : List ℕ) → left ≡ [] → Searching h fits done left xs → Inside (done ++ left) (readings_of (told h) class fits) → fits_order (done ++ left) (readings_of (told h) class fits) (env xs) ≡ true
  all_fit left e s inside = every_from (fits_at (env xs)) (own (done ++ left) (readings_of (told h) class fits)) fit
    where
      whole : done ++ left ≡ done
      whole = ap (λ ss. done ++ ss) e ∙ append-nil done

      fit : (r : Reading) → In r (own (done ++ left) (readings_of (told h) class fits)) → fits_at (env xs) r ≡ true
      fit r i =
          let q = reading_in h class fits r (own_in (done ++ left) (readings_of (told h) class fits) r i).0 in
          let pair : r.ends ≡ pair_of h q.0 = ap (λ x. x.ends) q.2 ∙ told_at h class fits q.0 q.1 in
          let in₀ = s.set (pair_of h q.0).0 (subst (In (pair_of h q.0).0) whole (subst (λ (p : ℕ × ℕ). In p.0 (done ++ left)) pair (inside r i).0)) in
          let in₁ = s.set (pair_of h q.0).1 (subst (In (pair_of h q.0).1) whole (subst (λ (p : ℕ × ℕ). In p.1 (done ++ left)) pair (inside r i).1)) in
          ap₂ (λ (f : ℕ → ℕ → Bool) (p : ℕ × ℕ). f (env xs p.0) (env xs p.1)) (ap (λ x. x.fits) q.2) pair
          ∙ sym (agree_set (fits q.0) (get_or xs (pair_of h q.0).0 None) (get_or xs (pair_of h q.0).1 None) in₀ in₁)
          ∙ s.fitting q.0 q.1

  module _ (slot : ℕ) (rest : List ℕ) (s : Searching h fits done (slot ∷ rest) xs) (small : slot < length xs) (a : ℕ) where
    once : Once ((done ++ slot ∷ []) ++ rest)
    once = subst Once (sym (append_assoc done (slot ∷ []) rest)) s.once

    set_cases : (t : ℕ) → is_set (set xs slot (Some a)) t ≡ true → In t (done ++ slot ∷ [])
    set_cases t e = go (cases_eq t slot)
      where
        go : (t ≡ slot) ⊎ (t ≡ slot → ⊥) → In t (done ++ slot ∷ [])
        go (inl q) = in_right t done (slot ∷ []) (inl q)
        go (inr ne) = in_left t done (slot ∷ []) (s.only t (sym (is_set_other xs slot a t ne) ∙ e))

    -- the next slot set, and nothing breaks
    pub goes_on : every (passes_at h fits (set xs slot (Some a)) slot) (range_with_len 0 h.persons) ≡ true → Searching h fits (done ++ slot ∷ []) rest (set xs slot (Some a))
    goes_on pass = record {
      once = once;
      set = λ t i. set_at t (cases_eq t slot) (in_append t done (slot ∷ []) i);
      only = set_cases;
      fitting = λ p l. fit p l (cases_Bool (eqb (pair_of h p).0 slot || eqb (pair_of h p).1 slot));
    }
      where
        set_at : (t : ℕ) → (t ≡ slot) ⊎ (t ≡ slot → ⊥) → In t done ⊎ In t (slot ∷ []) → is_set (set xs slot (Some a)) t ≡ true
        set_at t (inl q) i = ap (is_set (set xs slot (Some a))) q ∙ is_set_same xs slot a small
        set_at t (inr ne) (inl i) = is_set_other xs slot a t ne ∙ s.set t i
        set_at t (inr ne) (inr (inl q)) = absurd (ne q)
        set_at t (inr ne) (inr (inr i)) = elim i [ ]

        fit : (p : ℕ) → p < h.persons → ((eqb (pair_of h p).0 slot || eqb (pair_of h p).1 slot) ≡ true) ⊎ ((eqb (pair_of h p).0 slot || eqb (pair_of h p).1 slot) ≡ false) → agrees (fits p) (get_or (set xs slot (Some a)) (pair_of h p).0 None) (get_or (set xs slot (Some a)) (pair_of h p).1 None) ≡ true
        fit p l (inl touched) =
            let e = every_at (passes_at h fits (set xs slot (Some a)) slot) p (range_with_len 0 h.persons) pass (in_counting 0 h.persons p (omega arith) (omega arith)) in
            sym (ap (λ b. not b || agrees (fits p) (get_or (set xs slot (Some a)) (pair_of h p).0 None) (get_or (set xs slot (Some a)) (pair_of h p).1 None)) touched) ∙ e
        fit p l (inr clear) =
            let q = or_parts (eqb (pair_of h p).0 slot) (eqb (pair_of h p).1 slot) clear in
            ap₂ (agrees (fits p)) (get_or-set_other xs slot (pair_of h p).0 (Some a) None (eqb-false (pair_of h p).0 slot q.0)) (get_or-set_other xs slot (pair_of h p).1 (Some a) None (eqb-false (pair_of h p).1 slot q.1))
            ∙ s.fitting p l

    -- a reading that breaks stays broken
    pub gives_up : {V : Type 0} (o : Ops V) → Laws o → (k : ℕ) (w : ℕ → V) → ((p x y : ℕ) → class p ≡ Silent → fits p x y ≡ true) → every (passes_at h fits (set xs slot (Some a)) slot) (range_with_len 0 h.persons) ≡ false → searched o k w (fits_order (done ++ slot ∷ rest) (readings_of (told h) class fits)) rest (env (set xs slot (Some a))) ≡ o.zero
    gives_up {V} o l k w silent stop =
        let f = some_fails (passes_at h fits (set xs slot (Some a)) slot) (range_with_len 0 h.persons) stop in
        dead f.0 f.1 f.2
      where
        dead : (p : ℕ) → In p (range_with_len 0 h.persons) → passes_at h fits (set xs slot (Some a)) slot p ≡ false → searched o k w (fits_order (done ++ slot ∷ rest) (readings_of (told h) class fits)) rest (env (set xs slot (Some a))) ≡ o.zero
        dead p i e =
            let q = or_parts (not (eqb (pair_of h p).0 slot || eqb (pair_of h p).1 slot)) (agrees (fits p) (get_or (set xs slot (Some a)) (pair_of h p).0 None) (get_or (set xs slot (Some a)) (pair_of h p).1 None)) e in
            let both = disagree (fits p) (get_or (set xs slot (Some a)) (pair_of h p).0 None) (get_or (set xs slot (Some a)) (pair_of h p).1 None) q.1 in
            let in₀ = set_cases (pair_of h p).0 both.0 in
            let in₁ = set_cases (pair_of h p).1 both.1 in
            let broken : fits p (env (set xs slot (Some a)) (pair_of h p).0) (env (set xs slot (Some a)) (pair_of h p).1) ≡ false = sym (agree_set (fits p) (get_or (set xs slot (Some a)) (pair_of h p).0 None) (get_or (set xs slot (Some a)) (pair_of h p).1 None) both.0 both.1) ∙ q.1 in
            let b = counting_in 0 h.persons p i in
            searched_dead o l k w (fits_order (done ++ slot ∷ rest) (readings_of (told h) class fits)) (λ σ. fits p (σ (pair_of h p).0) (σ (pair_of h p).1) ≡ false) (λ σ d. fails p (omega arith) (front (pair_of h p).0 (in_append (pair_of h p).0 done (slot ∷ []) in₀)) σ d) rest
            (λ t j σ c d. ap₂ (fits p) (update_other σ t c (pair_of h p).0 (λ z. apart (pair_of h p).0 in₀ (subst (λ u. In u rest) (sym z) j))) (update_other σ t c (pair_of h p).1 (λ z. apart (pair_of h p).1 in₁ (subst (λ u. In u rest) (sym z) j))) ∙ d)
            (env (set xs slot (Some a))) broken
          where
            apart : (t : ℕ) → In t (done ++ slot ∷ []) → In t rest → ⊥
            apart t x y = once_apart (done ++ slot ∷ []) rest once t x y

            front : (t : ℕ) → In t done ⊎ In t (slot ∷ []) → In t (done ++ slot ∷ rest)
            front t (inl i) = in_left t done (slot ∷ rest) i
            front t (inr (inl e)) = in_right t done (slot ∷ rest) (inl e)
            front t (inr (inr i)) = elim i [ ]

            fails : (p : ℕ) → p < h.persons → In (pair_of h p).0 (done ++ slot ∷ rest) → (σ : ℕ → ℕ) → fits p (σ (pair_of h p).0) (σ (pair_of h p).1) ≡ false → fits_order (done ++ slot ∷ rest) (readings_of (told h) class fits) σ ≡ false
            fails p l j σ d =
                let t = told_at h class fits p l in
                let fit : fits_at σ (reading_of (told h) class fits p) ≡ false = ap (λ (z : ℕ × ℕ). fits p (σ z.0) (σ z.1)) t ∙ d in
                every_not (fits_at σ) (reading_of (told h) class fits p) (own (done ++ slot ∷ rest) (readings_of (told h) class fits))
                (in_own (done ++ slot ∷ rest) (readings_of (told h) class fits) (reading_of (told h) class fits p) (in_reading h class fits p l) (says p (cases_Bool (loud (class p))) d) (subst (λ (z : ℕ × ℕ). In z.0 (done ++ slot ∷ rest)) (sym t) j)) fit
              where
                says : (p : ℕ) → (loud (class p) ≡ true) ⊎ (loud (class p) ≡ false) → fits p (σ (pair_of h p).0) (σ (pair_of h p).1) ≡ false → loud (class p) ≡ true
                says p (inl e) d = e
                says p (inr e) d = absurd (both_ways _ d (silent p (σ (pair_of h p).0) (σ (pair_of h p).1) (not_loud (class p) e)))

-- what the allele a of the next slot adds
abbrev pub part : {V : Type 0} → Ops V → ℕ → (ℕ → V) → ((ℕ → ℕ) → Bool) → ℕ → List ℕ → (ℕ → ℕ) → ℕ → V
part o k w test slot rest ρ a = o.product (w a) (searched o k w test rest (update ρ slot a))

-- one allele more
module _ {V : Type 0} (o : Ops V) (l : Laws o) (k : ℕ) (w : ℕ → V) (test : (ℕ → ℕ) → Bool) (slot : ℕ) (rest : List ℕ) (ρ : ℕ → ℕ) where
  pub part_more : (total next : V) (a : ℕ) → total ≡ fold o.zero o.sum (range_with_len 0 a) (part o k w test slot rest ρ) → next ≡ o.sum total (part o k w test slot rest ρ a) → next ≡ fold o.zero o.sum (range_with_len 0 (a + 1)) (part o k w test slot rest ρ)
  part_more total next a p q =
      q ∙ ap (λ x. o.sum x (part o k w test slot rest ρ a)) p ∙ sym (fold_counting_more l.sums a (part o k w test slot rest ρ))

  pub part_none : (total : V) (a : ℕ) → total ≡ fold o.zero o.sum (range_with_len 0 a) (part o k w test slot rest ρ) → searched o k w test rest (update ρ slot a) ≡ o.zero → total ≡ fold o.zero o.sum (range_with_len 0 (a + 1)) (part o k w test slot rest ρ)
  part_none total a p e =
      part_more total total a p (sym (neutral_right l.sums total) ∙ ap (o.sum total) (sym (absorbs_right o l (w a)) ∙ ap (o.product (w a)) (sym e)))
