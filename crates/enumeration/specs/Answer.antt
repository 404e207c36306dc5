-- What the enumeration answers.
-- Assumes nothing.
use Rattle.std.specs.Prelude.{ℕ, ◌*◌, Bool, cond, ◌&&◌, List, ◌++◌, length, Some, None, Option, nat_le}
use Rattle.algebra.specs.Semiring.{Ops}
use Rattle.pedigree.specs.declared.persons.Meiosis.{Meiosis}
use Rattle.pedigree.specs.declared.persons.Person.{Person}
use Rattle.pedigree.specs.Families.{founders_in}
use Rattle.readings.specs.declared.class.Class.{Class}
use Rattle.figures.specs.Assignments.{assignments}
use Rattle.figures.specs.Figure.{weights, figure, product, fits_all}
use Rattle.figures.specs.Lists.{fold}
use Rattle.figures.specs.Locus.{Reading}
use Rattle.figures.specs.View.{locus_of}

-- at most 8 slots and at most 4 alleles: at most 65536 assignments
abbrev pub small : List Person → List ℕ → Bool
small persons costs = nat_le (2 * founders_in persons) 8 && nat_le (length costs) 4

-- the figure of a small locus; none of a larger one
abbrev pub answer : {V : Type 0} → Ops V → List Person → List Meiosis → (ℕ → Class) → (ℕ → ℕ → ℕ → Bool) → List ℕ → Option V
answer o persons bits class fits costs =
    let r : Option _ = Some (figure o (weights o costs) (locus_of persons bits (length costs) class fits)) in
    cond (small persons costs) r None

-- what one assignment adds: its product, or zero where it breaks a reading
abbrev pub added : {V : Type 0} → Ops V → (ℕ → V) → List Reading → List ℕ → V
added o w rs ρ = cond (fits_all rs ρ) (product o w ρ) o.zero

-- what the assignments add whose first slots have the alleles given, with n slots and k alleles to go
abbrev pub sum_after : {V : Type 0} → Ops V → (ℕ → V) → List Reading → ℕ → ℕ → List ℕ → V
sum_after o w rs k n front = fold o.zero o.sum (assignments n k) (λ ρ. added o w rs (front ++ ρ))
