-- Small families whose figures are known by hand, in one table.
-- Assumes nothing.
use Rattle.std.specs.Prelude.{◌≡◌, ℕ, Bool, true, false, List, [], ◌∷◌, length}
use Rattle.std.specs.List.{AllByRecursion}
use Rattle.algebra.specs.Count.{count_ops}
use Rattle.algebra.specs.Least.{least_ops}
use Rattle.algebra.specs.Best.{best_ops}
use Rattle.pedigree.specs.declared.persons.Meiosis.{Meiosis}
use Rattle.pedigree.specs.declared.persons.Person.{Person}
use Rattle.pedigree.specs.declared.persons.Person.TheVariants.{Founder, Child}
use Rattle.pedigree.specs.Meioses.{straight, meiosis_of}
use Rattle.readings.specs.declared.class.Class.{Class}
use Rattle.readings.specs.Tables.{byte_at, codominant_class, codominant_fits, dominant_class, dominant_fits}
use Rattle.figures.specs.Locus.{Locus}
use Rattle.figures.specs.Figure.{weights, figure}
use Rattle.figures.specs.Graph.{links, Parts}
use Rattle.figures.specs.View.{locus_of}

-- the bytes read at the locus, one for each person, 255 where nothing was read
pub data Readings : Type 0 where
  codominant : List ℕ → Readings
  dominant : List ℕ → Readings

abbrev pub class_in : Readings → ℕ → Class
class_in (codominant bytes) p = codominant_class (byte_at bytes 0 p)
class_in (dominant bytes) p = dominant_class (byte_at bytes 0 p)

abbrev pub fits_in : Readings → ℕ → ℕ → ℕ → Bool
fits_in (codominant bytes) p = codominant_fits (byte_at bytes 0 p)
fits_in (dominant bytes) p = dominant_fits (byte_at bytes 0 p)

-- a family with its meiosis bits, its readings and the costs of the alleles, and its figures: how many assignments fit, the least cost (the cap
-- 4294967295 where there is none), the best cost and its number, and the number of components
pub record Row : Type 0 where
  pub persons : List Person
  pub bits : List Meiosis
  pub readings : Readings
  pub costs : List ℕ
  pub count : ℕ
  pub least : ℕ
  pub best : ℕ × ℕ
  pub parts : ℕ

abbrev pub locus : Row → Locus
locus r = locus_of r.persons r.bits (length r.costs) (class_in r.readings) (fits_in r.readings)

-- the figures of a row are those of the rules
abbrev pub Holds : Row → Type 0
Holds r =
    ((figure count_ops (weights count_ops r.costs) (locus r)).number ≡ r.count)
    × ((figure least_ops (weights least_ops r.costs) (locus r)).cost ≡ r.least)
    × ((figure best_ops (weights best_ops r.costs) (locus r)).cost ≡ r.best.0)
    × ((figure best_ops (weights best_ops r.costs) (locus r)).number ≡ r.best.1)
    × Parts (locus r).slots (links (locus r).readings) r.parts

-- two founders and their two children
abbrev siblings : List Person
siblings = Founder ∷ Founder ∷ Child 0 1 ∷ Child 0 1 ∷ []

-- a founder and its selfed child
abbrev selfed : List Person
selfed = Founder ∷ Child 0 0 ∷ []

-- the paternal bit of the last person turned
abbrev siblings_turned : List Meiosis
siblings_turned = straight ∷ straight ∷ straight ∷ meiosis_of false true ∷ []

abbrev selfed_turned : List Meiosis
selfed_turned = straight ∷ meiosis_of false true ∷ []

-- three alleles
abbrev costs_of_three : List ℕ
costs_of_three = 5 ∷ 1 ∷ 2 ∷ []

abbrev pub rows : List Row
rows =
    -- siblings, nobody read
    record { persons = siblings; bits = []; readings = codominant []; costs = costs_of_three; count = 81; least = 4; best = (4, 1); parts = 4 }
    -- person 2 read as alleles 1 and 1
    ∷ record { persons = siblings; bits = []; readings = codominant (255 ∷ 255 ∷ 2 ∷ []); costs = costs_of_three; count = 9; least = 4; best = (4, 1); parts = 3 }
    -- person 2 read as alleles 0 and 1
    ∷ record { persons = siblings; bits = []; readings = codominant (255 ∷ 255 ∷ 1 ∷ []); costs = costs_of_three; count = 18; least = 8; best = (8, 2); parts = 3 }
    -- and person 3, who holds the same slots, as alleles 0 and 2
    ∷ record { persons = siblings; bits = []; readings = codominant (255 ∷ 255 ∷ 1 ∷ 3 ∷ []); costs = costs_of_three; count = 0; least = 4294967295; best = (4294967295, 0); parts = 3 }
    -- the same with the paternal bit of person 3 turned
    ∷ record { persons = siblings; bits = siblings_turned; readings = codominant (255 ∷ 255 ∷ 1 ∷ 3 ∷ []); costs = costs_of_three; count = 3; least = 9; best = (9, 1); parts = 2 }
    -- a selfed child that holds one slot twice, read as alleles 0 and 1
    ∷ record { persons = selfed; bits = []; readings = codominant (255 ∷ 1 ∷ []); costs = costs_of_three; count = 0; least = 4294967295; best = (4294967295, 0); parts = 2 }
    -- the same with its paternal bit turned
    ∷ record { persons = selfed; bits = selfed_turned; readings = codominant (255 ∷ 1 ∷ []); costs = costs_of_three; count = 2; least = 6; best = (6, 2); parts = 1 }
    -- one founder that shows allele 0 of two
    ∷ record { persons = Founder ∷ []; bits = []; readings = dominant (1 ∷ []); costs = 3 ∷ 1 ∷ []; count = 3; least = 4; best = (4, 2); parts = 1 }
    ∷ []

-- every row holds
abbrev pub RowsHold : Type 0
RowsHold = AllByRecursion Holds rows
