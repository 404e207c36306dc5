use Rattle.std.proofs.Common.{◌≡◌, ℕ, ◌-◌, [], ◌∷◌, ◌++◌, length}
use Rattle.std.specs.List.{range_with_len}
use Rattle.arrayvec.specs.ArrayVec.{array_vec_len}
use Rattle.figures.specs.Figure.{weights}
use Rattle.figures.specs.Lists.{fold}
use Rattle.figures.specs.View.{readings_of}
use Rattle.enumeration.proofs.Steps.{sum_behind}
use Rattle.enumeration.proofs.SmallLocus.+sum_from.Given as goal

abbrev pub decreases-sum_from : goal.decreases-sum_from
decreases-sum_from g l = l.self.now.slots - array_vec_len l.alleles.now

abbrev pub invariant-loop-allele : goal.invariant-loop-allele
invariant-loop-allele g l =
    let o = g.V.Algebra.operations in
    let rs = readings_of l.self.held.now (g.M.Model.classes l.self.model.now l.self.locus) (g.M.Model.fitting l.self.model.now l.self.locus) in
    let sum_with = λ (a : ℕ). sum_behind o (weights o l.self.costs.now) rs (length l.self.costs.now) l.self.slots (l.fn.alleles.items ++ a ∷ []) in
    record {
      summed : l.total ≡ fold o.zero o.sum (range_with_len 0 l.allele) sum_with;
      unchanged : l.alleles.items ≡ l.fn.alleles.items;
    }
