use Rattle.std.proofs.Common.{ℕ, List, length, sym, ap, ◌∙◌, ap₂, arith, rules}
use Rattle.figures.specs.Figure.{figure, weights}
use Rattle.figures.specs.Locus.{Locus}
use Rattle.figures.proofs.Carried.{figures_carried}
use Rattle.sums.specs.Seen.{locus_at, alleles_of}
use Rattle.sums.specs.declared.site.Site.{Site}
use Rattle.sums.proofs.Masked.{costs_small}
use Rattle.sums.proofs.site.Site.two_figures.Goals as goal

pub returns : goal.returns
returns g c =
    let locus : Site g.row.M.Denot → List ℕ → Locus = λ s cs. locus_at g.M.Model.classes g.M.Model.fitting s (length cs) in
    let costs = alleles_of c.args.costs.now in
    let L = locus c.args.self.now costs in
    let o = g.V.Algebra.operations in
    let p = g.W.Algebra.operations in
    let is = c.in_ok-priced.ensures in
    let first = c.product.ensures ∙ ap₂ (λ s cs. figure o (weights o cs) (locus s cs)) is.site is.costs in
    let second = c.product-2.ensures ∙ ap₂ (λ s cs. figure p (weights p cs) (locus s cs)) is.site is.costs in
    record {
      values = (search rules, first, second);
      carried = λ h carries. ap h first ∙ figures_carried o p h carries costs (costs_small c.args.costs.now (λ i. omega (arith, c.type_inv.costs i))) L ∙ sym second;
    }
