-- What a family is: its persons in the order entered, each numbered by its place. Assumes nothing.
-- Words: founders_in (how many founders), ParentsFirst (parents are numbered below their children), Lawful (a family that may stand).
use Rattle.std.specs.Prelude.{ℕ, suc, ◌≤◌, Bool, true, ◌&&◌, IsTrue, List, [], ◌∷◌, length, nat_lt, slice_index_or}
use Rattle.pedigree.specs.declared.persons.Person.{Person}
use Rattle.pedigree.specs.declared.persons.Person.TheVariants.{Founder, Child}

-- how many of the persons are founders
abbrev pub founders_in : List Person → ℕ
founders_in [] = 0
founders_in (Founder ∷ ps) = suc (founders_in ps)
founders_in (Child m f ∷ ps) = founders_in ps

-- the person of a number; past the last there is none, and the answer is a founder
abbrev pub person_at : List Person → ℕ → Person
person_at ps p = slice_index_or ps p Founder

-- whether a person may have the number p: a child only if its mother and its father are both numbered below p
abbrev pub parents_below : ℕ → Person → Bool
parents_below p Founder = true
parents_below p (Child m f) = nat_lt m p && nat_lt f p

-- every child's mother and father are numbered below the child; they may be one person
abbrev pub ParentsFirst : List Person → Type 0
ParentsFirst ps = (p : ℕ) → IsTrue (parents_below p (person_at ps p))

-- at most 64 persons, at most 32 founders among them, and parents before their children
abbrev pub Lawful : List Person → Type 0
Lawful ps = (length ps ≤ 64) × (founders_in ps ≤ 32) × ParentsFirst ps
