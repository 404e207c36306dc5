use Rattle.std.proofs.Common.{◌≡◌, ap, ◌∙◌, rules}
use Rattle.std.proofs.lemmas.Fn.{fold_over, slice_gives, fronts}
use Rattle.figures.specs.Figure.{weights, product}
use Rattle.enumeration.proofs.Steps.{product_more}
use Rattle.enumeration.proofs.SmallLocus.product.Goals as goal

pub returns : goal.returns
returns g c =
    let o = g.V.Algebra.operations in
    let w = weights o c.args.self.now.costs.now in
    let more = product_more o g.met.V.Algebra.laws w in
    fold_over fronts (λ y. y.now) _ (λ ρ v. v ≡ product o w ρ) _ (λ ρ v a u q i k. search (rules, more)) c.iter.result c.iter.result.rest.now c.one.result c.fold.result (slice_gives c.iter.result) c.one.ensures c.fold.ensures.ran
    ∙ ap (product o w) c.iter.ensures.rest
