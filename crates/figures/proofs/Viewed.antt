-- Whether an assignment fits all readings, person by person.
-- Assumes nothing.
use Rattle.std.proofs.Common.{◌≡◌, ℕ, ◌<◌, Bool, true, false, ◌&&◌, List, length, ◌∙◌, arith}
use Rattle.std.specs.List.{range_with_len}
use Rattle.pedigree.specs.Slots.{slots_at}
use Rattle.readings.specs.declared.class.Class.{Class}
use Rattle.figures.specs.Lists.{every}
use Rattle.figures.specs.Assignments.{allele}
use Rattle.figures.specs.Figure.{fits, fits_all}
use Rattle.figures.specs.View.{reading_of, readings_of}
use Rattle.figures.proofs.Folds.{fold_map}
use Rattle.figures.proofs.Members.{in_counting, counting_in, every_from, every_not}

module _ (slots : List (ℕ × ℕ)) (class : ℕ → Class) (fit : ℕ → ℕ → ℕ → Bool) (ρ : List ℕ) where
  -- the reading of person p fits
  abbrev pub fits_person : ℕ → Bool
  fits_person p = fit p (allele ρ (slots_at slots p).0) (allele ρ (slots_at slots p).1)

  by_person : fits_all (readings_of slots class fit) ρ ≡ every fits_person (range_with_len 0 (length slots))
  by_person = fold_map true ◌&&◌ (reading_of slots class fit) (fits ρ) (range_with_len 0 (length slots))

  pub fits_all_from : ((p : ℕ) → p < length slots → fits_person p ≡ true) → fits_all (readings_of slots class fit) ρ ≡ true
  fits_all_from h =
      by_person ∙ every_from fits_person (range_with_len 0 (length slots)) (λ p i. h p (let r = counting_in 0 (length slots) p i in omega arith))

  pub fits_all_not : (p : ℕ) → p < length slots → fits_person p ≡ false → fits_all (readings_of slots class fit) ρ ≡ false
  fits_all_not p h e =
      by_person ∙ every_not fits_person p (range_with_len 0 (length slots)) (in_counting 0 (length slots) p (omega arith) (omega arith)) e
