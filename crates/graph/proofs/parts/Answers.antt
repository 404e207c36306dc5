use Rattle.std.proofs.Common.{ap, ◌∙◌, subst}
use Rattle.forest.specs.Entries.{links_laid}
use Rattle.figures.specs.Graph.{Parts}
use Rattle.sums.specs.Seen.{told}
use Rattle.graph.proofs.Laying.{laid_links}
use Rattle.graph.proofs.parts.Goals as goal

pub returns : goal.returns
returns g c =
    let h = c.args.site.now.held.now in
    let class = g.M.Model.classes c.args.site.now.model.now c.args.site.now.locus in
    let fits = g.M.Model.fitting c.args.site.now.model.now c.args.site.now.locus in
    subst (λ ls. Parts h.slots ls c.parts.result) (ap links_laid c.lay_all.ensures ∙ laid_links (told h) class fits) c.parts.ensures
