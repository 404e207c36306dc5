-- The locus that slots held by persons and a reading model give.
-- Assumes nothing.
use Rattle.std.specs.Prelude.{ℕ, Bool, List, take}
use Rattle.readings.specs.declared.class.Class.{Class}
use Rattle.figures.specs.Locus.{Locus, Reading}
use Rattle.figures.specs.View.{readings_of}
use Rattle.sums.specs.declared.site.Site.{Site}
use Rattle.sums.specs.declared.slots.Held.{Held}

-- the slots told of the persons, in order
abbrev pub told : Held → List (ℕ × ℕ)
told h = take h.persons h.pairs

-- the locus of k alleles, by each person's class and which two alleles fit it
abbrev pub seen : Held → ℕ → (ℕ → Class) → (ℕ → ℕ → ℕ → Bool) → Locus
seen h k class fits = record {
  slots = h.slots;
  alleles = k;
  readings = readings_of (told h) class fits;
}

-- a locus has at most 16 alleles: of more costs the first 16 count
abbrev pub alleles_of : List ℕ → List ℕ
alleles_of costs = take 16 costs

-- What a site sees, by the classes and the fitting of its model: its readings, and the locus of k alleles.
module _ {M : Type 0} (classes : M → ℕ → ℕ → Class) (fitting : M → ℕ → ℕ → ℕ → ℕ → Bool) (s : Site M) where
  abbrev pub readings_at : List Reading
  readings_at = readings_of (told s.held.now) (classes s.model.now s.locus) (fitting s.model.now s.locus)

  abbrev pub locus_at : ℕ → Locus
  locus_at k = seen s.held.now k (classes s.model.now s.locus) (fitting s.model.now s.locus)
