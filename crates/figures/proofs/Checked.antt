-- The rows of the check families hold: one test computes all of them.
-- Assumes nothing.
use Rattle.std.proofs.Common.{◌≡◌, ℕ, Bool, true, ◌&&◌, eqb, List, [], ◌∷◌, length, refl, subst, arith}
use Rattle.std.specs.List.{AllByRecursion}
use Rattle.std.proofs.lemmas.Bool.{and_parts}
use Rattle.std.proofs.lemmas.Bool.Decides.{nat_tests}
use Rattle.algebra.specs.Count.{count_ops}
use Rattle.algebra.specs.Least.{least_ops}
use Rattle.algebra.specs.Best.{best_ops}
use Rattle.figures.specs.Lists.{every}
use Rattle.figures.specs.Figure.{weights, figure}
use Rattle.figures.specs.Graph.{links, Parts}
use Rattle.figures.specs.CheckFamilies.{Row, locus, Holds, rows, RowsHold}
use Rattle.figures.proofs.Settled.{names, parts_named}

counts : Row → ℕ
counts r = (figure count_ops (weights count_ops r.costs) (locus r)).number

leasts : Row → ℕ
leasts r = (figure least_ops (weights least_ops r.costs) (locus r)).cost

best_costs : Row → ℕ
best_costs r = (figure best_ops (weights best_ops r.costs) (locus r)).cost

best_numbers : Row → ℕ
best_numbers r = (figure best_ops (weights best_ops r.costs) (locus r)).number

named : Row → ℕ
named r = length (names (locus r).slots (links (locus r).readings))

passes : Row → Bool
passes r =
    eqb (counts r) r.count
    && (eqb (leasts r) r.least && (eqb (best_costs r) r.best.0 && (eqb (best_numbers r) r.best.1 && eqb (named r) r.parts)))

passed : (r : Row) → passes r ≡ true → Holds r
unfolding passes counts leasts best_costs best_numbers named
passed r t =
    let a : counts r ≡ r.count = grind (arith, nat_tests) in
    let b : leasts r ≡ r.least = grind (arith, nat_tests) in
    let c : best_costs r ≡ r.best.0 = grind (arith, nat_tests) in
    let d : best_numbers r ≡ r.best.1 = grind (arith, nat_tests) in
    let e : named r ≡ r.parts = grind (arith, nat_tests) in
    (a, b, c, d, subst (Parts (locus r).slots (links (locus r).readings)) e (parts_named (locus r).slots (links (locus r).readings)))

all_passed : (rs : List Row) → every passes rs ≡ true → AllByRecursion Holds rs
all_passed [] t = tt
all_passed (r ∷ rs) t = let p = and_parts (passes r) (every passes rs) t in (passed r p.0, all_passed rs p.1)

computed : every passes rows ≡ true
unfolding passes counts leasts best_costs best_numbers named
computed = refl

pub rows_hold : RowsHold
rows_hold = all_passed rows computed
