-- What a small locus holds.
-- Assumes nothing.
use Rattle.std.specs.Prelude.{ℕ, Bool, List}
use Rattle.readings.specs.declared.class.Class.{Class}
use Rattle.figures.specs.Locus.{Reading}
use Rattle.figures.specs.View.{readings_of}
use Rattle.enumeration.specs.declared.SmallLocus.{SmallLocus}

-- its readings, by the classes and the fitting of its model
abbrev pub readings_in : {M : Type 0} → (M → ℕ → ℕ → Class) → (M → ℕ → ℕ → ℕ → ℕ → Bool) → SmallLocus M → List Reading
readings_in classes fitting s = readings_of s.held.now (classes s.model.now s.locus) (fitting s.model.now s.locus)
