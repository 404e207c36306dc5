-- What a refusal of the family layer tells: its number, its place and its layer. Assumes nothing.
use Rattle.std.specs.Prelude.{ℕ}
use Rattle.refusal.specs.declared.Refusal.{Refusal}
use Rattle.refusal.specs.declared.Layer.TheVariants.{Family}
use Rattle.pedigree.specs.declared.faults.FamilyFault.{FamilyFault}
use Rattle.pedigree.specs.declared.faults.FamilyFault.TheVariants.{TooManyPersons, TooManyFounders, ParentNotBelow, NoPerson}

-- a refusal of the family layer
abbrev pub family_refusal : ℕ → ℕ → Refusal
family_refusal n p = record { number = n; place = p; layer = Family }

-- 1: a 65th person or a 33rd founder, at its number; 2: a parent not below its child, at the child; 3: no person, at 0
abbrev pub told : FamilyFault → Refusal
told (TooManyPersons p) = family_refusal 1 p
told (TooManyFounders p) = family_refusal 1 p
told (ParentNotBelow p) = family_refusal 2 p
told NoPerson = family_refusal 3 0
