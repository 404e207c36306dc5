-- A map that carries one algebra to another carries figures.
-- Assumes nothing.
use Rattle.std.proofs.Common.{ℕ, zero, suc, ◌≤◌, List, [], ◌∷◌, get_or, arith}
use Rattle.std.specs.List.{AllByRecursion}
use Rattle.algebra.specs.Semiring.{Ops}
use Rattle.figures.specs.Assignments.{assignments}
use Rattle.figures.specs.Lists.{kept}
use Rattle.figures.specs.Figure.{weights, product, fits_all}
use Rattle.figures.specs.Statements.{FiguresCarried}
use Rattle.figures.proofs.Folds.{fold_carried}

cost_small : (costs : List ℕ) → AllByRecursion (λ c. c ≤ 65535) costs → (a : ℕ) → get_or costs a 0 ≤ 65535
cost_small [] h a = omega arith
cost_small (c ∷ costs) h zero = h.0
cost_small (c ∷ costs) h (suc a) = cost_small costs h.1 a

pub figures_carried : {V W : Type 0} (o : Ops V) (p : Ops W) → FiguresCarried o p
figures_carried o p h c costs small L =
    fold_carried o.zero o.sum p.zero p.sum h c.zero c.sum (kept (fits_all L.readings) (assignments L.slots L.alleles))
    (product o (weights o costs)) (product p (weights p costs))
    (λ ρ. fold_carried o.one o.product p.one p.product h c.one c.product ρ (weights o costs) (weights p costs) (λ a. c.weight (get_or costs a 0) (cost_small costs small a)))
