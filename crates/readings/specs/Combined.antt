-- Models made of other models: two panels behind one another, and a mask over a set of persons.
use Rattle.std.specs.Prelude.{ℕ, ◌-◌, Bool, true, if◌then◌else◌, ◌||◌, nat_lt}
use Rattle.readings.specs.declared.class.Class.{Class}
use Rattle.readings.specs.declared.class.Class.TheVariants.{Silent}

-- two panels: a locus below n is the first's locus, another locus l below 8 the second's locus l - n; from locus 8 on there is silence
abbrev pub panels_class : ℕ → (ℕ → ℕ → Class) → (ℕ → ℕ → Class) → ℕ → ℕ → Class
panels_class n first second locus person = if nat_lt locus 8 then (if nat_lt locus n then first locus person else second (locus - n) person) else Silent

-- two panels: two alleles fit where they fit the panel that has the locus; from locus 8 on all do
abbrev pub panels_fits : ℕ → (ℕ → ℕ → ℕ → ℕ → Bool) → (ℕ → ℕ → ℕ → ℕ → Bool) → ℕ → ℕ → ℕ → ℕ → Bool
panels_fits n first second locus person a b = if nat_lt locus 8 then (if nat_lt locus n then first locus person a b else second (locus - n) person a b) else true

-- a mask: the persons of the set are silent at every locus, the others are as below it
abbrev pub masked_class : (ℕ → Bool) → (ℕ → ℕ → Class) → ℕ → ℕ → Class
masked_class S class locus person = if S person then Silent else class locus person

-- a mask: every two alleles fit a person of the set
abbrev pub masked_fits : (ℕ → Bool) → (ℕ → ℕ → ℕ → ℕ → Bool) → ℕ → ℕ → ℕ → ℕ → Bool
masked_fits S fits locus person a b = S person || fits locus person a b
