use Rattle.std.proofs.Common.{◌≡◌, [], ◌∷◌, ◌++◌, length, sym, ap, ◌∙◌, ap₂, arith}
use Rattle.std.proofs.lemmas.Grind.{common_steps}
use Rattle.std.specs.List.{range_with_len}
use Rattle.figures.specs.Figure.{weights}
use Rattle.figures.specs.Lists.{fold}
use Rattle.figures.specs.View.{readings_of}
use Rattle.figures.proofs.Folds.{fold_counting_more}
use Rattle.enumeration.proofs.Steps.{sum_behind, behind_more}
use Rattle.enumeration.proofs.SmallLocus.+sum_from.Goals as goal

pub loop-allele-preserved : goal.loop-allele-preserved
loop-allele-preserved g t c =
    let S = c.args.self.now in
    let o = g.V.Algebra.operations in
    let rs = readings_of S.held.now (g.M.Model.classes S.model.now S.locus) (g.M.Model.fitting S.model.now S.locus) in
    let behind = sum_behind o (weights o S.costs.now) rs (length S.costs.now) S.slots in
    let front = c.args.alleles.now.items in
    let a = c.loop-allele.allele in
    let longer : c.push.new.self.items ≡ front ++ a ∷ [] = c.push.ensures.items ∙ ap (λ xs. xs ++ a ∷ []) c.loop-allele.invariant.unchanged in
    record {
      summed =
          c.sum-total.ensures ∙ ap₂ o.sum c.loop-allele.invariant.summed (c.sum_from.ensures.value ∙ ap behind longer)
          ∙ sym (fold_counting_more g.met.V.Algebra.laws.sums a (λ b. behind (front ++ b ∷ [])));
      unchanged = grind (arith, common_steps);
    }

pub returns-clause-value : goal.returns-clause-value
returns-clause-value g t c =
    let S = c.args.self.now in
    let o = g.V.Algebra.operations in
    let rs = readings_of S.held.now (g.M.Model.classes S.model.now S.locus) (g.M.Model.fitting S.model.now S.locus) in
    let behind = sum_behind o (weights o S.costs.now) rs (length S.costs.now) S.slots in
    c.loop-allele.invariant.summed
    ∙ ap (λ n. fold o.zero o.sum (range_with_len 0 n) (λ a. behind (c.args.alleles.now.items ++ a ∷ []))) (omega arith)
    ∙ behind_more o g.met.V.Algebra.laws (weights o S.costs.now) rs (length S.costs.now) S.slots c.args.alleles.now.items (omega arith)
