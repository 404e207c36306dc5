-- What a builder and a closed family hold, and what each call on a builder answers. Assumes nothing.
use Rattle.std.specs.Prelude.{◌≡◌, ℕ, ◌<◌, ◌&&◌, if◌then◌else◌, List, [], length, take, Ok, Err, Result, nat_lt}
use Rattle.pedigree.specs.declared.families.Family.{Family}
use Rattle.pedigree.specs.declared.families.FamilyBuilder.{FamilyBuilder}
use Rattle.pedigree.specs.declared.faults.FamilyFault.{FamilyFault}
use Rattle.pedigree.specs.declared.faults.FamilyFault.TheVariants.{TooManyPersons, TooManyFounders, ParentNotBelow, NoPerson}
use Rattle.pedigree.specs.declared.persons.Person.{Person}
use Rattle.pedigree.specs.Families.{founders_in}

-- the persons entered so far
abbrev pub entered : FamilyBuilder → List Person
entered b = take b.count b.persons

-- the persons of a closed family
abbrev pub persons_of : Family → List Person
persons_of f = entered f.builder

-- entering a founder: refused as a 65th person, then as a 33rd founder, else answered by its number
abbrev pub founder_answer : List Person → Result ℕ FamilyFault
founder_answer ps =
    if nat_lt (length ps) 64
    then (if nat_lt (founders_in ps) 32 then Ok (length ps) else Err (TooManyFounders (length ps)))
    else Err (TooManyPersons (length ps))

-- entering a child: refused as a 65th person, then for a parent not below it, else answered by its number
abbrev pub child_answer : List Person → ℕ → ℕ → Result ℕ FamilyFault
child_answer ps m f =
    if nat_lt (length ps) 64
    then (if nat_lt m (length ps) && nat_lt f (length ps) then Ok (length ps) else Err (ParentNotBelow (length ps)))
    else Err (TooManyPersons (length ps))

-- closing: a family with exactly the persons entered, where there is one; refused where there is none
abbrev pub Closed : List Person → Result Family FamilyFault → Type 0
Closed ps (Ok f) = (0 < length ps) × (persons_of f ≡ ps)
Closed ps (Err e) = (ps ≡ []) × (e ≡ NoPerson)
