-- What a refusal of the readings layer tells: its number, its place and its layer. Assumes nothing.
use Rattle.std.specs.Prelude.{ℕ}
use Rattle.refusal.specs.declared.Refusal.{Refusal}
use Rattle.refusal.specs.declared.Layer.TheVariants.{Readings}
use Rattle.study.specs.declared.faults.ReadingsFault.{ReadingsFault}
use Rattle.study.specs.declared.faults.ReadingsFault.TheVariants.{LocusLacking, NoLocus, NinthLocus, Alleles, CostCount, Cost, PersonLacking, NumberLacking, SecondReading}

-- a refusal of the readings layer
abbrev pub readings_refusal : ℕ → ℕ → Refusal
readings_refusal n p = record { number = n; place = p; layer = Readings }

-- 4: a locus that the panel lacks, at the locus; 5: a panel or a locus out of bounds, at the locus, or at 0 where there is none;
-- 6: a person that the family lacks, at the person; 7: a number that the locus lacks or a second reading, at the place of the reading
abbrev pub told : ReadingsFault → Refusal
told (LocusLacking l) = readings_refusal 4 l
told NoLocus = readings_refusal 5 0
told (NinthLocus l) = readings_refusal 5 l
told (Alleles l) = readings_refusal 5 l
told (CostCount l) = readings_refusal 5 l
told (Cost l) = readings_refusal 5 l
told (PersonLacking p) = readings_refusal 6 p
told (NumberLacking n) = readings_refusal 7 n
told (SecondReading n) = readings_refusal 7 n
