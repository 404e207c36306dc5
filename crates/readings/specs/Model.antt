-- What every reading model owes: `class` is the class of the reading of a person at a locus, `fits` whether two alleles fit it.
use Rattle.std.specs.Prelude.{◌≡◌, ℕ, ◌≤◌, min, max, Bool, true, ◌&&◌, ◌==◌}
use Rattle.readings.specs.declared.class.Class.{Class}
use Rattle.readings.specs.declared.class.Class.TheVariants.{Silent, Named}

pub record Rules (class : ℕ → ℕ → Class) (fits : ℕ → ℕ → ℕ → ℕ → Bool) : Type 0 where
  -- the order of the two alleles never matters
  pub unordered : (locus person x y : ℕ) → fits locus person x y ≡ fits locus person y x
  -- a silent reading fits every two alleles
  pub silent : (locus person x y : ℕ) → class locus person ≡ Silent → fits locus person x y ≡ true
  -- a named pair has the smaller allele first
  pub ordered : (locus person a b : ℕ) → class locus person ≡ Named a b → a ≤ b
  -- a named reading fits its own pair and no other
  pub named : (locus person a b x y : ℕ) → class locus person ≡ Named a b → fits locus person x y ≡ (min x y == a && max x y == b)
  -- from locus 8 on every reading is silent
  pub far_locus : (locus person : ℕ) → 8 ≤ locus → class locus person ≡ Silent
  -- from person 64 on every reading is silent
  pub far_person : (locus person : ℕ) → 64 ≤ person → class locus person ≡ Silent
