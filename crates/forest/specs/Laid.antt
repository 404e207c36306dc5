-- The entries that a forest holds, and what laying one more person answers.
-- Assumes nothing.
use Rattle.std.specs.Prelude.{ℕ, Bool, List, length, Ok, Err, Result, Option, if◌then◌else◌, nat_lt}
use Rattle.forest.specs.declared.faults.LayFault.{LayFault}
use Rattle.forest.specs.declared.faults.LayFault.TheVariants.{TooManyPersons, SlotLacking}
use Rattle.forest.specs.declared.trees.Forest.{Forest}
use Rattle.forest.specs.Entries.{links_laid, in_range}
use Rattle.forest.specs.Hanging.{first_entries}

-- the entries of the persons laid, in their order
abbrev pub laid : Forest → List (Option (ℕ × ℕ))
laid f = first_entries f.count f.ties

-- the links not taken back, in the order of the persons
abbrev pub links_of : Forest → List (ℕ × ℕ)
links_of f = links_laid (laid f)

-- whether one more person may be laid: at most 64 are
abbrev pub has_room : List (Option (ℕ × ℕ)) → Bool
has_room es = nat_lt (length es) 64

-- one more person with a link: refused as a 65th, and then for a slot above 63
abbrev pub lay_answer : List (Option (ℕ × ℕ)) → ℕ × ℕ → Result (Unit {0}) LayFault
lay_answer es l = if has_room es then (if in_range l then Ok tt else Err SlotLacking) else Err TooManyPersons

-- one more person without a link: refused as a 65th
abbrev pub pass_answer : List (Option (ℕ × ℕ)) → Result (Unit {0}) LayFault
pass_answer es = if has_room es then Ok tt else Err TooManyPersons
