-- What the memory of the slots that persons hold keeps.
-- Assumes nothing.
use Rattle.std.specs.Prelude.{◌≡◌, ℕ, ◌<◌, ◌≤◌, List, length, slice_index_or}

-- the first `persons` pairs are those of the persons, and each of their slots is one of `slots`
abbrev pub Within : List (ℕ × ℕ) → ℕ → ℕ → Type 0
Within pairs persons slots =
    (length pairs ≡ 64) × (persons ≤ 64) × (slots ≤ 64) × ((p : ℕ) → p < persons → ((slice_index_or pairs p (0, 0)).0 < slots) × ((slice_index_or pairs p (0, 0)).1 < slots))
