use Rattle.std.proofs.Common.{length, take, ap, ◌∙◌, arith}
use Rattle.pedigree.specs.Building.{persons_of}
use Rattle.figures.specs.Figure.{weights}
use Rattle.figures.specs.View.{readings_of}
use Rattle.enumeration.proofs.Steps.{sum_behind, front_held, answered}
use Rattle.enumeration.proofs.figure_by_enumeration.Goals as goal

pub returns : goal.returns
returns g c =
    let o = g.V.Algebra.operations in
    let persons = persons_of c.args.family.now in
    let class = g.M.Model.classes c.args.model.now c.args.locus in
    let fit = g.M.Model.fitting c.args.model.now c.args.locus in
    let costs = c.args.costs.now in
    let slots = c.slot_count-slots.result in
    let held = take c.count.result c.all_slots-held.result in
    answered o g.met.V.Algebra.laws persons c.args.bits.now class fit costs slots held c.sum_from.result c.slot_count-slots.ensures (omega arith) (omega arith)
    (ap (λ m. take m c.all_slots-held.result) c.count.ensures ∙ front_held c.args.family.now c.args.bits.now c.all_slots-held.result _ c.all_slots-held.ensures.value)
    (c.sum_from.ensures.value ∙ ap (sum_behind o (weights o costs) (readings_of held class fit) (length costs) slots) c.new-alleles.ensures)
