use Rattle.std.proofs.Common.{get_or, sym, ap, ◌∙◌}
use Rattle.figures.specs.Locus.{loud}
use Rattle.sums.specs.Gathering.{items, follow}
use Rattle.sums.proofs.Views.{reach_loud, reach_silent}
use Rattle.sums.proofs.site.Site.reach.Goals as goal
use Rattle.sums.proofs.site.Site.reach.Goals.{then-is_loud, else-is_loud}

pub loop-person-preserved : goal.loop-person-preserved
loop-person-preserved g c =
    let h = c.args.self.now.held.now in
    let class = g.M.Model.classes c.args.self.now.model.now c.args.self.now.locus in
    let fits = g.M.Model.fitting c.args.self.now.model.now c.args.self.now.locus in
    let is = ap loud (sym c.class.ensures) ∙ sym c.is_loud.ensures in
    elim c.if-is_loud.branch [
      | then-is_loud w ↦
          reach_loud h class fits c.loop-person.person c.args.slot (items c.args.found.now) (items c.loop-person.found) (items c.if-is_loud.found) (is ∙ w.if-is_loud.true) c.loop-person.invariant (ap items w.found-is ∙ w.follow.ensures ∙ ap (λ xs. follow c.args.slot (items c.loop-person.found) (get_or xs c.loop-person.person (0, 0))) c.pairs-ends-items.ensures)
      | else-is_loud w ↦
          ap items w.found-is ∙ reach_silent h class fits c.loop-person.person c.args.slot (items c.args.found.now) (items c.loop-person.found) (items c.loop-person.found) (is ∙ w.if-is_loud.false) c.loop-person.invariant
    ]
