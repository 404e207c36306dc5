-- Gathering the slots of a component link by link.
-- Assumes nothing.
use Rattle.std.specs.Prelude.{ℕ, cond, List, fold, ◌==◌}
use Rattle.sums.specs.declared.order.Gathered.{Gathered}
use Rattle.sums.specs.Ordered.{pushed}

-- the slots gathered, in their order
abbrev pub items : Gathered → List ℕ
items g = g.slots.items

-- the slots gathered, and the other end of a link that has slot s at one end
abbrev pub follow : ℕ → List ℕ → ℕ × ℕ → List ℕ
follow s ss l =
    let first = cond (l.0 == s) (pushed ss l.1) ss in
    cond (l.1 == s) (pushed first l.0) first

-- the slots gathered, and all that a link joins to slot s
abbrev pub reached : List (ℕ × ℕ) → ℕ → List ℕ → List ℕ
reached ls s ss = fold (follow s) ss ls
