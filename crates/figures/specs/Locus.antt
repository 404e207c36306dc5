-- A locus as the sums see it: founder slots, alleles, and every person's reading with the two slots that the person holds.
-- Assumes nothing.
use Rattle.std.specs.Prelude.{ℕ, Bool, true, false, cond, ◌||◌, List, map}
use Rattle.readings.specs.declared.class.Class.{Class}
use Rattle.readings.specs.declared.class.Class.TheVariants.{Silent, Named, Several}

-- the reading of one person: the person's number, its maternal and its paternal slot, the reading's class, and which two alleles fit it
pub record Reading : Type 0 where
  pub person : ℕ
  pub ends : ℕ × ℕ
  pub class : Class
  pub fits : ℕ → ℕ → Bool

-- a locus: how many founder slots there are, how many alleles, and the readings of all persons in order, silent ones too
pub record Locus : Type 0 where
  pub slots : ℕ
  pub alleles : ℕ
  pub readings : List Reading

-- a reading that says something
abbrev pub loud : Class → Bool
loud Silent = false
loud (Named a b) = true
loud Several = true

-- the reading where its person, if it is in the set, is silenced: it is silent then, and fits every two alleles
abbrev pub silence : (ℕ → Bool) → Reading → Reading
silence S r = record {
  person = r.person;
  ends = r.ends;
  class = cond (S r.person) Silent r.class;
  fits = λ a b. S r.person || r.fits a b;
}

-- the locus with the persons of the set silenced
abbrev pub silenced : (ℕ → Bool) → Locus → Locus
silenced S L = record {
  slots = L.slots;
  alleles = L.alleles;
  readings = map (silence S) L.readings;
}
