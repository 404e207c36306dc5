-- The locus that a family, its meiosis bits and its readings give.
-- Assumes nothing.
use Rattle.std.specs.Prelude.{ℕ, ◌*◌, Bool, List, map, length}
use Rattle.std.specs.List.{range_with_len}
use Rattle.pedigree.specs.declared.persons.Meiosis.{Meiosis}
use Rattle.pedigree.specs.declared.persons.Person.{Person}
use Rattle.pedigree.specs.Families.{founders_in}
use Rattle.pedigree.specs.Slots.{slots_of, slots_at}
use Rattle.readings.specs.declared.class.Class.{Class}
use Rattle.figures.specs.Locus.{Locus, Reading}

-- the reading of person p, by the slots told of all persons, each person's class, and which two alleles fit each person
abbrev pub reading_of : List (ℕ × ℕ) → (ℕ → Class) → (ℕ → ℕ → ℕ → Bool) → ℕ → Reading
reading_of slots class fits p = record {
  person = p;
  ends = slots_at slots p;
  class = class p;
  fits = fits p;
}

-- the readings of all persons, in order
abbrev pub readings_of : List (ℕ × ℕ) → (ℕ → Class) → (ℕ → ℕ → ℕ → Bool) → List Reading
readings_of slots class fits = map (reading_of slots class fits) (range_with_len 0 (length slots))

-- the locus of k alleles of a family: two slots for each founder, and for each person the slots that the meiosis bits give it
abbrev pub locus_of : List Person → List Meiosis → ℕ → (ℕ → Class) → (ℕ → ℕ → ℕ → Bool) → Locus
locus_of persons bits k class fits = record {
  slots = 2 * founders_in persons;
  alleles = k;
  readings = readings_of (slots_of persons bits) class fits;
}
