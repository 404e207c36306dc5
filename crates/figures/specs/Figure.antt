-- The figure of a locus: the sum, over all assignments that fit its readings, of the product of the weights of all slots' alleles.
--   fits      the assignment gives the person's two slots alleles that fit its reading
--   breaks    it does not
--   product   the weight of each slot's allele, each slot once, multiplied
--   excess    the same sum over the assignments that fit only once some persons are silenced
-- Assumes nothing.
use Rattle.std.specs.Prelude.{ℕ, Bool, not, ◌&&◌, ◌||◌, List, slice_index}
use Rattle.algebra.specs.Semiring.{Ops}
use Rattle.figures.specs.Lists.{fold, every, some_passes, kept}
use Rattle.figures.specs.Assignments.{assignments, allele}
use Rattle.figures.specs.Locus.{Locus, Reading}

abbrev pub fits : List ℕ → Reading → Bool
fits ρ r = r.fits (allele ρ r.ends.0) (allele ρ r.ends.1)

abbrev pub breaks : List ℕ → Reading → Bool
breaks ρ r = not (fits ρ r)

-- the assignment fits every reading
abbrev pub fits_all : List Reading → List ℕ → Bool
fits_all rs ρ = every (fits ρ) rs

-- the assignment breaks the reading of a silenced person, and fits those of all others
abbrev pub fits_others : (ℕ → Bool) → List Reading → List ℕ → Bool
fits_others S rs ρ = some_passes (λ r. S r.person && breaks ρ r) rs && every (λ r. S r.person || fits ρ r) rs

module _ {V : Type 0} (o : Ops V) where
  -- the weight of each allele of a locus whose costs are listed
  abbrev pub weights : List ℕ → ℕ → V
  weights costs a = o.weight (slice_index costs a)

  abbrev pub product : (ℕ → V) → List ℕ → V
  product w ρ = fold o.one o.product ρ w

  -- the sum of the products over the assignments of a locus that pass a test
  abbrev pub sum_over : (ℕ → V) → Locus → (List ℕ → Bool) → V
  sum_over w L passes = fold o.zero o.sum (kept passes (assignments L.slots L.alleles)) (product w)

  abbrev pub figure : (ℕ → V) → Locus → V
  figure w L = sum_over w L (fits_all L.readings)

  abbrev pub excess : (ℕ → V) → (ℕ → Bool) → Locus → V
  excess w S L = sum_over w L (fits_others S L.readings)
