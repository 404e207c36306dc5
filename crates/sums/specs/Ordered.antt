-- Slots in the order in which they were gathered: below 64, none twice, each marked.
-- Assumes nothing.
use Rattle.std.specs.Prelude.{◌≡◌, ℕ, Bool, true, false, cond, not, ◌&&◌, ltb, List, [], ◌∷◌, ◌++◌, nat_lt, slice_index_or}
use Rattle.figures.specs.Lists.{every}
use Rattle.figures.specs.Graph.{has}

-- no slot stands twice
abbrev pub distinct : List ℕ → Bool
distinct [] = true
distinct (s ∷ ss) = not (has ss s) && distinct ss

-- every slot that stands in the list is marked, and no other
abbrev pub Marked : List Bool → List ℕ → Type 0
Marked marks ss = (s : ℕ) → slice_index_or marks s false ≡ has ss s

-- slots below 64, none twice
abbrev pub lawful : List ℕ → Bool
lawful ss = distinct ss && every (λ s. ltb s 64) ss

-- one slot more, where it is below 64 and not there yet
abbrev pub pushed : List ℕ → ℕ → List ℕ
pushed ss s = cond (nat_lt s 64 && not (has ss s)) (ss ++ s ∷ []) ss
