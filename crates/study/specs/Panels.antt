-- What a panel is: its loci in the order entered, each the list of the costs of its alleles, and how many of them are codominant. Assumes nothing.
-- Words: costs_low (no cost is above 65,535), LawfulLocus, LawfulPanel (what may stand), codominant_count (how many loci are codominant).
use Rattle.std.specs.Prelude.{◌≡◌, ℕ, ◌≤◌, Bool, true, List, length, Some, None, Option, nat_le}
use Rattle.std.specs.List.{All, list_all}

-- no cost is above 65,535
abbrev pub costs_low : List ℕ → Bool
costs_low costs = list_all (λ c. nat_le c 65535) costs

-- a locus has 1 to 16 alleles, each with a cost from 0 to 65,535
abbrev pub LawfulLocus : List ℕ → Type 0
LawfulLocus costs = (1 ≤ length costs) × (length costs ≤ 16) × (costs_low costs ≡ true)

-- at most 8 lawful loci, of which the first n are codominant
abbrev pub LawfulPanel : List (List ℕ) → ℕ → Type 0
LawfulPanel loci n = (length loci ≤ 8) × (n ≤ length loci) × All LawfulLocus loci

-- how many loci are codominant: those that stood when dominant ones first began, or all if they never did
abbrev pub codominant_count : Option ℕ → ℕ → ℕ
codominant_count (Some n) count = n
codominant_count None count = count

-- where dominant loci began: where they did at first, or here
abbrev pub first_begun : Option ℕ → ℕ → Option ℕ
first_begun (Some n) count = Some n
first_begun None count = Some count
