-- The search over the alleles of a list of slots, one slot after the other, weighing each allele as it is set.
-- Assumes nothing.
use Rattle.std.proofs.Common.{◌≡◌, ℕ, Bool, true, false, cond, List, [], ◌∷◌, sym, refl, ap, ◌∙◌, inl, inr}
use Rattle.std.specs.List.{range_with_len}
use Rattle.algebra.specs.Semiring.{Ops, Laws}
use Rattle.figures.specs.Lists.{fold, every, In, Once}
use Rattle.figures.specs.Locus.{Locus}
use Rattle.figures.specs.Graph.{Component, Sound, links, own, component_sum}
use Rattle.figures.proofs.Folds.{fold_cong, fold_unit}
use Rattle.figures.proofs.Placed.{fits_at, component_summed}
use Rattle.figures.proofs.Factored.{own_inside}
use Rattle.figures.proofs.SlotSums.{update, update_same, sum_slots, sum_at, sum_pull, absorbs_right}

module _ {V : Type 0} (o : Ops V) (k : ℕ) (w : ℕ → V) (h : (ℕ → ℕ) → Bool) where
  -- each allele of each slot weighed; one where the test passes at the end, zero where it fails
  abbrev pub searched : List ℕ → (ℕ → ℕ) → V
  searched [] ρ = cond (h ρ) o.one o.zero
  searched (s ∷ ss) ρ = fold o.zero o.sum (range_with_len 0 k) (λ a. o.product (w a) (searched ss (update ρ s a)))

module _ {V : Type 0} (o : Ops V) (l : Laws o) (k : ℕ) (w : ℕ → V) (h : (ℕ → ℕ) → Bool) where
  pub searched_is : (ss : List ℕ) → Once ss → (ρ : ℕ → ℕ) → sum_slots o k ss (λ σ. cond (h σ) (fold o.one o.product ss (λ s. w (σ s))) o.zero) ρ ≡ searched o k w h ss ρ
  searched_is [] once ρ = refl
  searched_is (s ∷ ss) once ρ =
      fold_cong o.zero o.sum (range_with_len 0 k) _ _
      (λ a. sum_at o k s ss once.0 _ (λ σ. o.product (w a) (cond (h σ) (fold o.one o.product ss (λ t. w (σ t))) o.zero)) (update ρ s a) (λ σ e. out (h σ) (fold o.one o.product ss (λ t. w (σ t))) (w (σ s)) (w a) (ap w (e ∙ update_same ρ s a)))
      ∙ sum_pull o l k ss (λ _. w a) (λ σ. cond (h σ) (fold o.one o.product ss (λ t. w (σ t))) o.zero) (λ t i σ b. refl) (update ρ s a)
      ∙ ap (o.product (w a)) (searched_is ss once.1 (update ρ s a)))
    where
      out : (b : Bool) (x y z : V) → y ≡ z → cond b (o.product y x) o.zero ≡ o.product z (cond b x o.zero)
      out true x y z e = ap (λ t. o.product t x) e
      out false x y z e = sym (absorbs_right o l z)

  -- nothing is found where a fact that no slot to come can change makes the test fail
  pub searched_dead : (D : (ℕ → ℕ) → Type 0) → ((σ : ℕ → ℕ) → D σ → h σ ≡ false) → (ss : List ℕ) → ((s : ℕ) → In s ss → (σ : ℕ → ℕ) (a : ℕ) → D σ → D (update σ s a)) → (ρ : ℕ → ℕ) → D ρ → searched o k w h ss ρ ≡ o.zero
  searched_dead D fails [] stays ρ d = ap (λ b. cond b o.one o.zero) (fails ρ d)
  searched_dead D fails (s ∷ ss) stays ρ d =
      fold_cong o.zero o.sum (range_with_len 0 k) _ _
      (λ a. ap (o.product (w a)) (searched_dead D fails ss (λ t i. stays t (inr i)) (update ρ s a) (stays s (inl refl) ρ a d)) ∙ absorbs_right o l (w a))
      ∙ fold_unit l.sums (range_with_len 0 k)

-- the sum of a component is found by the search over its slots in any order
pub component_searched : {V : Type 0} (o : Ops V) → Laws o → (w : ℕ → V) (L : Locus) → Sound L → (s : ℕ) (c : List ℕ) → Component L.slots (links L.readings) s c → (ρ : ℕ → ℕ) → component_sum o w L c ≡ searched o L.alleles w (λ σ. every (fits_at σ) (own c L.readings)) c ρ
component_searched o l w L sound s c comp ρ =
    component_summed o l L.alleles w L c ρ refl comp.once (own_inside L sound s c comp)
    ∙ searched_is o l L.alleles w (λ σ. every (fits_at σ) (own c L.readings)) c comp.once ρ
