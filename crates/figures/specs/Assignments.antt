-- Assignments of alleles to founder slots: entry s of the list is the allele of slot s.
-- Assumes nothing.
use Rattle.std.specs.Prelude.{ℕ, zero, suc, List, [], ◌∷◌, map, slice_index}
use Rattle.std.specs.List.{range_with_len, flat_map}

-- all lists of n alleles below k: each allele of the first slot before each assignment of the others
abbrev pub assignments : ℕ → ℕ → List (List ℕ)
assignments zero k = [] ∷ []
assignments (suc n) k = flat_map (λ a. map (λ ρ. a ∷ ρ) (assignments n k)) (range_with_len 0 k)

-- the allele of slot s
abbrev pub allele : List ℕ → ℕ → ℕ
allele ρ s = slice_index ρ s
