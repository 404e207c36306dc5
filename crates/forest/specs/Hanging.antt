-- What the memory of a forest keeps: the parents that the links laid give, and the root that each link hung.
-- Words: entry (the slots of a tie), first_entries (those of the first persons), newest (the links laid, the last one first), parents (the parent of each slot),
-- hung_by (the root that a link hangs).
-- Assumes nothing.
use Rattle.std.specs.Prelude.{◌≡◌, ℕ, ◌<◌, ◌≤◌, min, max, true, List, [], ◌∷◌, map, reverse, length, take, Some, None, Option, slice_index_or, slice_set}
use Rattle.std.specs.List.{range_with_len}
use Rattle.std.specs.Option.{option_map}
use Rattle.figures.specs.Lists.{every}
use Rattle.figures.proofs.Names.{name}
use Rattle.forest.specs.declared.trees.Tie.{Tie}
use Rattle.forest.specs.Entries.{links_laid, in_range}

-- the entry of a person, by its tie: the slots that it links
abbrev pub entry : Option Tie → Option (ℕ × ℕ)
entry tie = option_map (λ t. t.slots) tie

-- the entries of the first n persons
abbrev pub first_entries : ℕ → List (Option Tie) → List (Option (ℕ × ℕ))
first_entries n ties = map entry (take n ties)

-- the links laid, the last one first
abbrev pub newest : List (Option (ℕ × ℕ)) → List (ℕ × ℕ)
newest es = reverse (links_laid es)

-- the parent of each slot: at first itself; each link hangs the higher of its two roots under the lower
unfoldable pub parents : List (ℕ × ℕ) → List ℕ
parents [] = range_with_len 0 64
parents (l ∷ ls) =
    let x = name ls l.0 in
    let y = name ls l.1 in
    slice_set (parents ls) (max x y) (min x y)

-- the root that a link hangs, over the links before it
abbrev pub hung_by : List (ℕ × ℕ) → ℕ × ℕ → ℕ
hung_by ls l = max (name ls l.0) (name ls l.1)

-- the first `count` ties are those of the persons laid, at most 64, and their links have slots in range
abbrev pub Kept : List (Option Tie) → ℕ → Type 0
Kept ties count = record { long : length ties ≡ 64; few : count ≤ 64; range : every in_range (newest (first_entries count ties)) ≡ true }

-- the parents are those that the links laid give
abbrev pub Grown : List ℕ → List (Option Tie) → ℕ → Type 0
Grown parent ties count = parent ≡ parents (newest (first_entries count ties))

-- the tie of each person laid, if it has one, tells the root that its link hung over the links before it
abbrev pub Undone : List (Option Tie) → ℕ → Type 0
Undone ties count =
    (p : ℕ) (t : Tie) → p < count → slice_index_or ties p None ≡ Some t → t.hung ≡ hung_by (newest (first_entries p ties)) t.slots
