-- The sum over listed assignments of some slots is the sum over their alleles, one slot after the other.
-- Assumes nothing.
use Rattle.std.proofs.Common.{◌≡◌, ℕ, zero, suc, ◌+◌, ◌<◌, Bool, true, cond, ◌&&◌, eqb, List, [], ◌∷◌, map, length, get_or, sym, refl, ap, ◌∙◌, ap₂, subst, inl, inr, arith}
use mathlib.Core.Path.{fun_ext}
use Rattle.std.specs.List.{range_with_len}
use Rattle.std.proofs.lemmas.List.FromFn.{length-range_with_len, fill_by_all}
use Rattle.std.proofs.lemmas.Bool.{eq-eqb, ne_eqb, cond-true, cond-false}
use Rattle.algebra.specs.Semiring.{Ops, Laws}
use Rattle.figures.specs.Lists.{fold, every, In, Once}
use Rattle.figures.specs.Assignments.{assignments}
use Rattle.figures.specs.Locus.{Locus, Reading}
use Rattle.figures.specs.Figure.{product, fits_all, figure}
use Rattle.figures.specs.Graph.{allele_at, own, fits_own, component_sum}
use Rattle.figures.proofs.Folds.{fold_cong, fold_cong_in, fold_map, fold_joined, fold_kept, neutral_right}
use Rattle.figures.proofs.Assigned.{listed_fits}
use Rattle.figures.proofs.SlotSums.{update, update_same, update_other, sum_slots}

-- the alleles with those of the slots listed replaced
abbrev pub place : List ℕ → List ℕ → (ℕ → ℕ) → ℕ → ℕ
place [] σ ρ = ρ
place (s ∷ ss) [] ρ = ρ
place (s ∷ ss) (a ∷ σ) ρ = place ss σ (update ρ s a)

pub place_outside : (ss σ : List ℕ) (ρ : ℕ → ℕ) (t : ℕ) → (In t ss → ⊥) → place ss σ ρ t ≡ ρ t
place_outside [] σ ρ t out = refl
place_outside (s ∷ ss) [] ρ t out = refl
place_outside (s ∷ ss) (a ∷ σ) ρ t out =
    place_outside ss σ (update ρ s a) t (λ i. out (inr i)) ∙ update_other ρ s a t (λ e. out (inl e))

-- the alleles placed are those that the assignment gives
pub place_inside : (ss σ : List ℕ) (ρ : ℕ → ℕ) → Once ss → length σ ≡ length ss → (t : ℕ) → In t ss → place ss σ ρ t ≡ allele_at ss σ t
place_inside [] σ ρ o e t i = elim i [ ]
place_inside (s ∷ ss) [] ρ o e t i = absurd (omega (arith, e))
place_inside (s ∷ ss) (a ∷ σ) ρ o e t (inl q) =
    ap (place ss σ (update ρ s a)) q ∙ place_outside ss σ (update ρ s a) s o.0 ∙ update_same ρ s a
    ∙ sym (cond-true (eqb t s) a (allele_at ss σ t) (eq-eqb t s q))
place_inside (s ∷ ss) (a ∷ σ) ρ o e t (inr i) =
    place_inside ss σ (update ρ s a) o.1 (omega (arith, e)) t i
    ∙ sym (cond-false (eqb t s) a (allele_at ss σ t) (ne_eqb t s (λ q. o.0 (subst (λ u. In u ss) q i))))

-- the product of an assignment is that of its slots
pub product_placed : {V : Type 0} (o : Ops V) (w : ℕ → V) (ss σ : List ℕ) (ρ : ℕ → ℕ) → Once ss → length σ ≡ length ss → product o w σ ≡ fold o.one o.product ss (λ s. w (place ss σ ρ s))
product_placed o w [] [] ρ c e = refl
product_placed o w [] (a ∷ σ) ρ c e = absurd (omega (arith, e))
product_placed o w (s ∷ ss) [] ρ c e = absurd (omega (arith, e))
product_placed o w (s ∷ ss) (a ∷ σ) ρ c e =
    ap₂ o.product (ap w (sym (place_outside ss σ (update ρ s a) s c.0 ∙ update_same ρ s a)))
    (product_placed o w ss σ (update ρ s a) c.1 (omega (arith, e)))

place_below : (i m : ℕ) (σ : List ℕ) (ρ : ℕ → ℕ) (t : ℕ) → t < i → place (range_with_len i m) σ ρ t ≡ ρ t
place_below i zero σ ρ t h = refl
place_below i (suc m) [] ρ t h = refl
place_below i (suc m) (a ∷ σ) ρ t h =
    place_below (i + 1) m σ (update ρ i a) t (omega arith) ∙ update_other ρ i a t (λ e. omega arith)

place_from : (i : ℕ) (σ : List ℕ) (ρ : ℕ → ℕ) (j : ℕ) → place (range_with_len i (length σ)) σ ρ (i + j) ≡ get_or σ j (ρ (i + j))
place_from i [] ρ j = refl
place_from i (a ∷ σ) ρ zero =
    place_below (i + 1) (length σ) σ (update ρ i a) (i + 0) (omega arith) ∙ ap (update ρ i a) (omega arith) ∙ update_same ρ i a
place_from i (a ∷ σ) ρ (suc j) =
    ap (place (range_with_len (i + 1) (length σ)) σ (update ρ i a)) (omega arith) ∙ place_from (i + 1) σ (update ρ i a) j
    ∙ ap (get_or σ j) (update_other ρ i a (i + 1 + j) (λ e. omega arith) ∙ ap ρ (omega arith))

-- all slots in order: the alleles are those of the assignment, and 0 past its end
pub place_all : (σ : List ℕ) → place (range_with_len 0 (length σ)) σ (λ _. 0) ≡ (λ s. get_or σ s 0)
place_all σ = fun_ext (λ s. ap (place (range_with_len 0 (length σ)) σ (λ _. 0)) (omega arith) ∙ place_from 0 σ (λ _. 0) s)

-- the reading fits the alleles of its two slots
abbrev pub fits_at : (ℕ → ℕ) → Reading → Bool
fits_at ρ r = r.fits (ρ r.ends.0) (ρ r.ends.1)

-- the term of a list of slots: the product of the weights of their alleles where the readings given fit, and zero where one breaks
abbrev pub term_of : {V : Type 0} → Ops V → (ℕ → V) → List Reading → List ℕ → (ℕ → ℕ) → V
term_of o w rs ss ρ = cond (every (fits_at ρ) rs) (fold o.one o.product ss (λ s. w (ρ s))) o.zero

module _ {V : Type 0} (o : Ops V) (l : Laws o) (k : ℕ) where
  pub sum_listed : (ss : List ℕ) (F : (ℕ → ℕ) → V) (ρ : ℕ → ℕ) → sum_slots o k ss F ρ ≡ fold o.zero o.sum (assignments (length ss) k) (λ σ. F (place ss σ ρ))
  sum_listed [] F ρ = sym (neutral_right l.sums (F ρ))
  sum_listed (s ∷ ss) F ρ =
      fold_cong o.zero o.sum (range_with_len 0 k) _ _
      (λ a. sum_listed ss F (update ρ s a) ∙ sym (fold_map o.zero o.sum (λ σ. a ∷ σ) (λ σ. F (place (s ∷ ss) σ ρ)) (assignments (length ss) k)))
      ∙ sym (fold_joined l.sums (λ a. map (λ σ. a ∷ σ) (assignments (length ss) k)) (λ σ. F (place (s ∷ ss) σ ρ)) (range_with_len 0 k))

  pub figure_summed : (w : ℕ → V) (L : Locus) → L.alleles ≡ k → figure o w L ≡ sum_slots o k (range_with_len 0 L.slots) (term_of o w L.readings (range_with_len 0 L.slots)) (λ _. 0)
  figure_summed w L e =
      fold_kept l.sums (fits_all L.readings) (product o w) (assignments L.slots L.alleles)
      ∙ ap (λ m. fold o.zero o.sum (assignments L.slots m) (λ σ. cond (fits_all L.readings σ) (product o w σ) o.zero)) e
      ∙ fold_cong_in o.zero o.sum (assignments L.slots k) _ _ (λ σ i. one σ (listed_fits L.slots k σ i).0)
      ∙ ap (λ m. fold o.zero o.sum (assignments m k) (λ σ. term_of o w L.readings (range_with_len 0 L.slots) (place (range_with_len 0 L.slots) σ (λ _. 0)))) (sym (length-range_with_len 0 L.slots))
      ∙ sym (sum_listed (range_with_len 0 L.slots) (term_of o w L.readings (range_with_len 0 L.slots)) (λ _. 0))
    where
      one : (σ : List ℕ) → length σ ≡ L.slots → cond (fits_all L.readings σ) (product o w σ) o.zero ≡ term_of o w L.readings (range_with_len 0 L.slots) (place (range_with_len 0 L.slots) σ (λ _. 0))
      one σ q =
          ap (λ x. cond (fits_all L.readings σ) x o.zero) (ap (λ τ. product o w τ) (fill_by_all (λ s. get_or σ s 0) σ (length σ) 0 refl (λ s h. refl)) ∙ fold_map o.one o.product (λ s. get_or σ s 0) w (range_with_len 0 (length σ)))
          ∙ ap (λ ρ. term_of o w L.readings (range_with_len 0 (length σ)) ρ) (sym (place_all σ))
          ∙ ap (λ n. term_of o w L.readings (range_with_len 0 n) (place (range_with_len 0 n) σ (λ _. 0))) q

  pub component_summed : (w : ℕ → V) (L : Locus) (ss : List ℕ) (ρ : ℕ → ℕ) → L.alleles ≡ k → Once ss → ((r : Reading) → In r (own ss L.readings) → In r.ends.0 ss × In r.ends.1 ss) → component_sum o w L ss ≡ sum_slots o k ss (term_of o w (own ss L.readings) ss) ρ
  component_summed w L ss ρ e once inside =
      fold_kept l.sums (fits_own ss L.readings) (product o w) (assignments (length ss) L.alleles)
      ∙ ap (λ m. fold o.zero o.sum (assignments (length ss) m) (λ σ. cond (fits_own ss L.readings σ) (product o w σ) o.zero)) e
      ∙ fold_cong_in o.zero o.sum (assignments (length ss) k) _ _ (λ σ i. one σ (listed_fits (length ss) k σ i).0)
      ∙ sym (sum_listed ss (term_of o w (own ss L.readings) ss) ρ)
    where
      one : (σ : List ℕ) → length σ ≡ length ss → cond (fits_own ss L.readings σ) (product o w σ) o.zero ≡ term_of o w (own ss L.readings) ss (place ss σ ρ)
      one σ q =
          ap₂ (λ b x. cond b x o.zero)
          (fold_cong_in true ◌&&◌ (own ss L.readings) _ _ (λ r i. sym (ap₂ r.fits (place_inside ss σ ρ once q r.ends.0 (inside r i).0) (place_inside ss σ ρ once q r.ends.1 (inside r i).1))))
          (product_placed o w ss σ ρ once q)
