-- A component that has a link and only named readings has at most two fitting assignments: one allele settles all others.
-- Assumes nothing.
use Rattle.std.proofs.Common.{◌≡◌, ℕ, ◌≤◌, min, max, true, cond, eqb, List, [], ◌∷◌, length, sym, refl, ◌∙◌, subst, ap₂, inl, inr, arith}
use Rattle.std.proofs.lemmas.Bool.{and_parts, cases_lt, cond-true, cond-false, eq-eqb, ne_eqb, eqb-true, false≢true}
use Rattle.readings.specs.declared.class.Class.{Class}
use Rattle.readings.specs.declared.class.Class.TheVariants.{Silent, Named, Several}
use Rattle.figures.specs.Lists.{kept, In, Once}
use Rattle.figures.specs.Assignments.{assignments}
use Rattle.figures.specs.Locus.{Locus, Reading, loud}
use Rattle.figures.specs.Graph.{Chain, same, link, back, join, Component, Sound, links, own, allele_at, fits_own}
use Rattle.figures.specs.Statements.{TwoAtMost}
use Rattle.figures.proofs.Members.{map_in, kept_in, once_kept, every_at, no_more}
use Rattle.figures.proofs.Assigned.{listed_fits, once_assignments}
use Rattle.figures.proofs.Factored.{loud_link, own_in, in_own}

loud_named : (c : Class) → loud c ≡ true → (c ≡ Several → ⊥) → (a : ℕ) × (b : ℕ) × (c ≡ Named a b)
loud_named Silent e out = absurd (false≢true e)
loud_named (Named a b) e out = (a, b, refl)
loud_named Several e out = absurd (out refl)

-- assignments of the same slots that agree at each of them are one
same_alleles : (c σ τ : List ℕ) → Once c → length σ ≡ length c → length τ ≡ length c → ((t : ℕ) → In t c → allele_at c σ t ≡ allele_at c τ t) → σ ≡ τ
same_alleles [] [] [] o p q h = refl
same_alleles [] [] (b ∷ τ) o p q h = absurd (omega (arith, q))
same_alleles [] (a ∷ σ) τ o p q h = absurd (omega (arith, p))
same_alleles (s ∷ c) [] τ o p q h = absurd (omega (arith, p))
same_alleles (s ∷ c) (a ∷ σ) [] o p q h = absurd (omega (arith, q))
same_alleles (s ∷ c) (a ∷ σ) (b ∷ τ) o p q h =
    ap₂ (λ x xs. x ∷ xs)
    (sym (cond-true (eqb s s) a (allele_at c σ s) (eq-eqb s s refl)) ∙ h s (inl refl) ∙ cond-true (eqb s s) b (allele_at c τ s) (eq-eqb s s refl))
    (same_alleles c σ τ o.1 (omega (arith, p)) (omega (arith, q)) (λ t i. sym (later t i a σ) ∙ h t (inr i) ∙ later t i b τ))
  where
    later : (t : ℕ) → In t c → (x : ℕ) (ξ : List ℕ) → cond (eqb t s) x (allele_at c ξ t) ≡ allele_at c ξ t
    later t i x ξ = cond-false (eqb t s) x (allele_at c ξ t) (ne_eqb t s (λ e. o.0 (subst (λ u. In u c) e i)))

module _ (L : Locus) (sound : Sound L) (s : ℕ) (c : List ℕ) (comp : Component L.slots (links L.readings) s c) (named : (r : Reading) → In r (own c L.readings) → r.class ≡ Several → ⊥) where
  -- the named pair of a reading of the component
  pair : (r : Reading) → In r (own c L.readings) → (a : ℕ) × (b : ℕ) × (r.class ≡ Named a b)
  pair r i = loud_named r.class (own_in c L.readings r i).1 (named r i)

  -- the alleles that fit it are that pair
  paired : (r : Reading) (i : In r (own c L.readings)) (x y : ℕ) → r.fits x y ≡ true → (min x y ≡ (pair r i).0) × (max x y ≡ (pair r i).1)
  paired r i x y e =
      let m = pair r i in
      let t = and_parts (eqb (min x y) m.0) (eqb (max x y) m.1) (sym (sound.named r m.0 m.1 x y (own_in c L.readings r i).0 m.2) ∙ e) in
      (eqb-true (min x y) m.0 t.0, eqb-true (max x y) m.1 t.1)

  fit_of : (ξ : List ℕ) → fits_own c L.readings ξ ≡ true → (r : Reading) → In r (own c L.readings) → r.fits (allele_at c ξ r.ends.0) (allele_at c ξ r.ends.1) ≡ true
  fit_of ξ e r i = every_at (λ x. x.fits (allele_at c ξ x.ends.0) (allele_at c ξ x.ends.1)) r (own c L.readings) e i

  module _ (σ τ : List ℕ) (f : fits_own c L.readings σ ≡ true) (g : fits_own c L.readings τ ≡ true) where
    -- a slot of the component at which the two agree
    Agree : ℕ → Type 0
    Agree t = In t c × (allele_at c σ t ≡ allele_at c τ t)

    -- a named pair and one of its alleles settle the other
    second_settled : (r : Reading) → In r (own c L.readings) → (x y z : ℕ) → r.fits x y ≡ true → r.fits x z ≡ true → y ≡ z
    second_settled r i x y z p q = let t = paired r i x y p in let u = paired r i x z q in omega (arith, t.0, t.1, u.0, u.1)

    first_settled : (r : Reading) → In r (own c L.readings) → (x y z : ℕ) → r.fits y x ≡ true → r.fits z x ≡ true → y ≡ z
    first_settled r i x y z p q = let t = paired r i y x p in let u = paired r i z x q in omega (arith, t.0, t.1, u.0, u.1)

    along : (r : Reading) → In r L.readings → loud r.class ≡ true → (Agree r.ends.0 → Agree r.ends.1) × (Agree r.ends.1 → Agree r.ends.0)
    unfolding Agree
    along r i e = (
      (λ h. (onward h.0, second_settled r (in_own c L.readings r i e h.0) (allele_at c σ r.ends.0) (allele_at c σ r.ends.1) (allele_at c τ r.ends.1) (fit_of σ f r (in_own c L.readings r i e h.0)) (subst (λ x. r.fits x (allele_at c τ r.ends.1) ≡ true) (sym h.1) (fit_of τ g r (in_own c L.readings r i e h.0))))),
      (λ h. let first = backward h.0 in (first, first_settled r (in_own c L.readings r i e first) (allele_at c σ r.ends.1) (allele_at c σ r.ends.0) (allele_at c τ r.ends.0) (fit_of σ f r (in_own c L.readings r i e first)) (subst (λ x. r.fits (allele_at c τ r.ends.0) x ≡ true) (sym h.1) (fit_of τ g r (in_own c L.readings r i e first))))),
    )
      where
        onward : In r.ends.0 c → In r.ends.1 c
        onward j = (comp.exactly r.ends.1).1 ((sound.within r i).1, join ((comp.exactly r.ends.0).0 j).1 (link (loud_link L.readings r i e)))

        backward : In r.ends.1 c → In r.ends.0 c
        backward j = (comp.exactly r.ends.0).1 ((sound.within r i).0, join ((comp.exactly r.ends.1).0 j).1 (back (link (loud_link L.readings r i e))))

    spreads : {t u : ℕ} → Chain (links L.readings) t u → (Agree t → Agree u) × (Agree u → Agree t)
    unfolding Agree
    spreads same = ((λ h. h), λ h. h)
    spreads {t} {u} (link i) =
        let m = map_in (λ r. r.ends) (t, u) (kept (λ r. loud r.class) L.readings) i in
        let q = kept_in (λ r. loud r.class) m.0 L.readings m.1 in
        let a = along m.0 q.1 q.0 in
        ((λ h. subst (λ e. Agree e.1) (sym m.2) (a.0 (subst (λ e. Agree e.0) m.2 h))), λ h. subst (λ e. Agree e.0) (sym m.2) (a.1 (subst (λ e. Agree e.1) m.2 h)))
    spreads (back d) = let h = spreads d in (h.1, h.0)
    spreads (join d e) = let h = spreads d in let i = spreads e in ((λ x. i.0 (h.0 x)), λ x. h.1 (i.1 x))

    agreed : length σ ≡ length c → length τ ≡ length c → (t : ℕ) → In t c → allele_at c σ t ≡ allele_at c τ t → σ ≡ τ
    unfolding Agree
    agreed p q t i e =
        same_alleles c σ τ comp.once p q
        (λ u j. ((spreads (join (back ((comp.exactly t).0 i).1) ((comp.exactly u).0 j).1)).0 (i, e)).1)

  two : (r : Reading) → In r (own c L.readings) → length (kept (fits_own c L.readings) (assignments (length c) L.alleles)) ≤ 2
  two r i =
      let m = pair r i in
      no_more (λ σ x. allele_at c σ r.ends.0 ≡ x) (kept (fits_own c L.readings) (assignments (length c) L.alleles)) (m.0 ∷ (m.1 ∷ []))
      (λ σ τ x j k e d.
      let a = kept_in (fits_own c L.readings) σ (assignments (length c) L.alleles) j in
      let b = kept_in (fits_own c L.readings) τ (assignments (length c) L.alleles) k in
      agreed σ τ a.0 b.0 (listed_fits (length c) L.alleles σ a.1).0 (listed_fits (length c) L.alleles τ b.1).0 r.ends.0 (own_in c L.readings r i).2 (e ∙ sym d))
      (once_kept (fits_own c L.readings) (assignments (length c) L.alleles) (once_assignments (length c) L.alleles))
      (λ σ j.
      let t = paired r i (allele_at c σ r.ends.0) (allele_at c σ r.ends.1) (fit_of σ (kept_in (fits_own c L.readings) σ (assignments (length c) L.alleles) j).0 r i) in
      elim (cases_lt (allele_at c σ r.ends.0) (allele_at c σ r.ends.1))
      [ inl h ↦ (m.0, inl refl, omega (arith, t.0)) | inr h ↦ (m.1, inr (inl refl), omega (arith, t.1)) ])

pub two_at_most : TwoAtMost
two_at_most L sound s c comp r i named = two L sound s c comp named r i
