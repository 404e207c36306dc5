-- What each person of a family lays in the founder-allele graph of a locus.
-- Assumes nothing.
use Rattle.std.specs.Prelude.{ℕ, cond, List, map, length, Some, None, Option}
use Rattle.std.specs.List.{range_with_len}
use Rattle.pedigree.specs.Slots.{slots_at}
use Rattle.readings.specs.declared.class.Class.{Class}
use Rattle.figures.specs.Locus.{loud}

-- a person whose reading is not silent links its two slots, any other nothing
abbrev pub entry_of : List (ℕ × ℕ) → (ℕ → Class) → ℕ → Option (ℕ × ℕ)
entry_of slots class p = cond (loud (class p)) (Some (slots_at slots p)) None

-- the entries of all persons, in order
abbrev pub entries_of : List (ℕ × ℕ) → (ℕ → Class) → List (Option (ℕ × ℕ))
entries_of slots class = map (entry_of slots class) (range_with_len 0 (length slots))
