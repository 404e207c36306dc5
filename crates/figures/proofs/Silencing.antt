-- Silencing persons adds exactly the excess.
-- Assumes nothing.
use Rattle.std.proofs.Common.{◌≡◌, ℕ, Bool, true, false, cond, not, ◌&&◌, ◌||◌, List, [], ◌∷◌, map, sym, refl, ap, ap₂, ◌∙◌}
use Rattle.algebra.specs.Semiring.{Ops, Laws}
use Rattle.figures.specs.Lists.{every, some_passes}
use Rattle.figures.specs.Assignments.{assignments}
use Rattle.figures.specs.Locus.{Reading, silence}
use Rattle.figures.specs.Figure.{fits, fits_all, fits_others, breaks, product}
use Rattle.figures.specs.Statements.{ExcessAdded}
use Rattle.figures.proofs.Folds.{fold_map, fold_kept, fold_both, fold_cong, neutral_right}

-- one reading more: s is whether its person is silenced, f whether it fits
one_more : (s f m b : Bool) → (f && (m && not b)) ≡ (((s || f) && m) && not ((s && not f) || b))
one_more true true m b = refl
one_more false true m b = refl
one_more false false m b = refl
one_more true false true b = refl
one_more true false false b = refl

-- what fits all fits the others and breaks nothing that is silenced
all_or_break : (S : ℕ → Bool) (ρ : List ℕ) (rs : List Reading) → every (fits ρ) rs ≡ (every (λ r. S r.person || fits ρ r) rs && not (some_passes (λ r. S r.person && breaks ρ r) rs))
all_or_break S ρ [] = refl
all_or_break S ρ (r ∷ rs) =
    ap (λ b. fits ρ r && b) (all_or_break S ρ rs)
    ∙ one_more (S r.person) (fits ρ r) (every (λ q. S q.person || fits ρ q) rs) (some_passes (λ q. S q.person && breaks ρ q) rs)

module _ {V : Type 0} (o : Ops V) (l : Laws o) where
  -- one term: m whether the others fit, b whether a silenced reading breaks
  one_term : (m b : Bool) (x : V) → cond m x o.zero ≡ o.sum (cond (m && not b) x o.zero) (cond (b && m) x o.zero)
  one_term true true x = sym (l.sums.neutral x)
  one_term true false x = sym (neutral_right l.sums x)
  one_term false true x = sym (l.sums.neutral o.zero)
  one_term false false x = sym (l.sums.neutral o.zero)

  pub excess_added : ExcessAdded o
  excess_added w S L =
      fold_kept l.sums (fits_all (map (silence S) rs)) (product o w) all
      ∙ fold_cong o.zero o.sum all _ _ term
      ∙ fold_both l.sums all (λ ρ. cond (fits_all rs ρ) (product o w ρ) o.zero) (λ ρ. cond (fits_others S rs ρ) (product o w ρ) o.zero)
      ∙ ap₂ o.sum (sym (fold_kept l.sums (fits_all rs) (product o w) all)) (sym (fold_kept l.sums (fits_others S rs) (product o w) all))
    where
      rs : List Reading
      rs = L.readings

      all : List (List ℕ)
      all = assignments L.slots L.alleles

      term : (ρ : List ℕ) → cond (fits_all (map (silence S) rs) ρ) (product o w ρ) o.zero ≡ o.sum (cond (fits_all rs ρ) (product o w ρ) o.zero) (cond (fits_others S rs ρ) (product o w ρ) o.zero)
      term ρ =
          let x = product o w ρ in
          let m = every (λ r. S r.person || fits ρ r) rs in
          let b = some_passes (λ r. S r.person && breaks ρ r) rs in
          ap (λ t. cond t x o.zero) (fold_map true ◌&&◌ (silence S) (fits ρ) rs)
          ∙ one_term m b x
          ∙ ap (λ t. o.sum (cond t x o.zero) (cond (b && m) x o.zero)) (sym (all_or_break S ρ rs))
