-- The entries of the persons laid, one a person in the order of the persons, and the roots of slots under their links.
-- Words: links_laid (the links among the entries), Root (the lowest slot that a chain joins to a slot).
-- Assumes nothing.
use Rattle.std.specs.Prelude.{◌≡◌, ℕ, ◌≤◌, Bool, ◌&&◌, ◌↔◌, List, Option, nat_lt}
use Rattle.std.specs.List.{filter_map}
use Rattle.figures.specs.Graph.{Chain}

-- the links of the persons laid, in their order; a person whose entry is none links nothing
abbrev pub links_laid : List (Option (ℕ × ℕ)) → List (ℕ × ℕ)
links_laid es = filter_map (λ e. e) es

-- both slots of a link are among the 64
abbrev pub in_range : ℕ × ℕ → Bool
in_range l = nat_lt l.0 64 && nat_lt l.1 64

-- r is the root of s: a chain joins them, and none leads to a lower slot
abbrev pub Root : List (ℕ × ℕ) → ℕ → ℕ → Type 0
Root ls s r = Chain ls s r × ((t : ℕ) → Chain ls s t → r ≤ t)

-- r tells the component of s: of every slot t, its root is r exactly if a chain joins s and t
abbrev pub Tells : List (ℕ × ℕ) → ℕ → ℕ → Type 0
Tells ls s r = (t q : ℕ) → Root ls t q → (r ≡ q) ↔ Chain ls s t
