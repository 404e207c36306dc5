-- What the reading tables of a study hold, and what entering a reading answers and changes. Assumes nothing.
use Rattle.std.specs.Prelude.{◌≡◌, ℕ, ◌-◌, ◌<◌, true, false, cond, List, length, replicate, Ok, Err, Result, ◌≢◌, nat_lt, slice_index_or, slice_set}
use Rattle.pedigree.specs.declared.persons.Person.{Person}
use Rattle.study.specs.declared.faults.ReadingsFault.{ReadingsFault}
use Rattle.study.specs.declared.faults.ReadingsFault.TheVariants.{LocusLacking, PersonLacking, NumberLacking, SecondReading}
use Rattle.study.specs.declared.tables.Tables.{Tables}
use Rattle.study.specs.Readings.{place_of, has_number}

-- tables into which nothing was entered: every byte is 255
abbrev pub unread : Tables
unread = record { codominant = replicate 512 255; dominant = replicate 512 255; entered = replicate 512 false }

-- entering g for person p at locus l: refused for a locus that the panel lacks, then for a person that the family lacks, for a number that the
-- locus lacks, and as a second reading; the first n loci are codominant
abbrev pub enter_answer : List (List ℕ) → ℕ → List Person → Tables → ℕ → ℕ → ℕ → Result (Unit {0}) ReadingsFault
enter_answer loci n persons t l p g =
    cond (nat_lt l (length loci)) (cond (nat_lt p (length persons)) (cond (has_number loci n l g) (cond (slice_index_or t.entered (place_of l p) false) (Err (SecondReading (place_of l p))) (Ok tt)) (Err (NumberLacking (place_of l p)))) (Err (PersonLacking p))) (Err (LocusLacking l))

-- the tables with g entered for person p at locus l: one of the first n loci is that locus of the codominant table, another one is locus l - n
-- of the dominant table
abbrev pub with_reading : Tables → ℕ → ℕ → ℕ → ℕ → Tables
with_reading t n l p g = record {
  codominant = cond (nat_lt l n) (slice_set t.codominant (place_of l p) g) t.codominant;
  dominant = cond (nat_lt l n) t.dominant (slice_set t.dominant (place_of (l - n) p) g);
  entered = slice_set t.entered (place_of l p) true;
}

-- the byte of person p at locus l, where the first n loci are codominant
abbrev pub byte_read : Tables → ℕ → ℕ → ℕ → ℕ
byte_read t n l p = cond (nat_lt l n) (slice_index_or t.codominant (place_of l p) 255) (slice_index_or t.dominant (place_of (l - n) p) 255)

-- one reading more: the byte of person p at locus l is g, and every other person or locus has the byte that it had
abbrev pub OneReadingMore : Tables → Tables → ℕ → ℕ → ℕ → ℕ → Type 0
OneReadingMore before after n l p g = (byte_read after n l p ≡ g) × ((m q : ℕ) → q < 64 → (m ≡ l → q ≢ p) → byte_read after n m q ≡ byte_read before n m q)
