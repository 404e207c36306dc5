-- The table of codes, by the triangular rule.
use Rattle.std.proofs.Common.{◌≡◌, ℕ, ◌+◌, ◌*◌, ◌/◌, ◌%◌, ◌≤◌, List, map, slice_index, arith}
use Rattle.std.specs.List.{range_with_len}
use Rattle.std.proofs.lemmas.List.FromFn.{get_or-map-range_with_len}
use Rattle.genotype.specs.Codes.{code_of}

-- the code that stands at the place k = 16a + b
abbrev pub code_at : ℕ → ℕ
code_at k = code_of (k / 16) (k % 16)

pub entry : (xs : List ℕ) (a b k : ℕ) → xs ≡ map code_at (range_with_len 0 256) → k ≡ 16 * a + b → a ≤ 15 → b ≤ 15 → slice_index xs k ≡ code_of a b
entry xs a b k e i ha hb =
    let row : k / 16 ≡ a = omega arith in
    let column : k % 16 ≡ b = omega arith in
    rw (e, get_or-map-range_with_len code_at 0 256 k k 0 (omega arith) (omega arith), row, column)
