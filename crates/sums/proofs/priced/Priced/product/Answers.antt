use Rattle.std.proofs.Common.{◌≡◌, [], ◌∷◌, length, replicate, None, sym, ap, ◌∙◌, subst}
use Rattle.figures.specs.Figure.{weights}
use Rattle.figures.specs.Graph.{component_sum}
use Rattle.figures.specs.Lists.{In, Once}
use Rattle.figures.specs.View.{readings_of}
use Rattle.figures.proofs.Factored.{figures_factored, own_inside}
use Rattle.figures.proofs.Searched.{searched, component_searched}
use Rattle.sums.specs.Gathering.{items}
use Rattle.sums.specs.Searching.{Inside, env, fits_order}
use Rattle.sums.specs.Seen.{told, seen}
use Rattle.sums.proofs.Lawful.{lawful_once, lawful_below}
use Rattle.sums.proofs.Parting.{parted_old, parted_new, parted_all, product_more, nothing_set}
use Rattle.sums.proofs.Views.{seen_sound}
use Rattle.sums.proofs.priced.Priced.product.Goals as goal

pub loop-slot-preserved-then-contains : goal.loop-slot-preserved-then-contains
loop-slot-preserved-then-contains g c =
    let inv = c.loop-slot.invariant in (inv.0, parted_old inv.1 (sym c.if-contains.ensures), inv.2)

pub search-sum-requires : goal.search-sum-requires
search-sum-requires g c =
    let found = c.gather.new.component in
    λ t i. lawful_below (items found) found.apart t (subst (In t) c.slots.ensures.value i)

pub loop-slot-preserved : goal.loop-slot-preserved
loop-slot-preserved g c =
    let site = c.args.self.now.site.now in
    let h = site.held.now in
    let class = g.M.Model.classes site.model.now site.locus in
    let fits = g.M.Model.fitting site.model.now site.locus in
    let o = g.V.Algebra.operations in
    let laws = g.met.V.Algebra.laws in
    let costs = c.args.self.now.costs.now in
    let w = weights o costs in
    let L = seen h (length costs) class fits in
    let sound = seen_sound h (length costs) site.locus (g.M.Model.classes site.model.now) (g.M.Model.fitting site.model.now) (g.M.Model.rules site.model.now) in
    let inv = c.loop-slot.invariant in
    let gathered = c.gather.new.component in
    let found = items gathered in
    let comp = c.gather.ensures in
    let slot = c.loop-slot.slot in
    let slots = c.slots.result.now in
    let is : slots ≡ found = c.slots.ensures.value in
    let unset = replicate 64 None in
    let rs = readings_of (told h) class fits in
    let sum : c.search-sum.result ≡ component_sum o w L found =
    c.search-sum.ensures [] (nothing_set h fits slots (subst Once (sym is) (lawful_once found gathered.apart))) (subst (λ ss. Inside ss rs) (sym is) (own_inside L sound slot found comp))
    ∙ ap (λ ss. searched o (length costs) w (fits_order ss rs) ss (env unset)) is
    ∙ sym (component_searched o laws w L sound slot found comp (env unset)) in
    (found ∷ inv.0, parted_new inv.1 c.loop-slot-test.true comp (sym c.if-contains.ensures) c.push_all.ensures, product_more o laws (component_sum o w L) inv.0 found c.loop-slot.total c.search-sum.result c.product-total.result inv.2 sum c.product-total.ensures)

pub returns : goal.returns
returns g c =
    let site = c.args.self.now.site.now in
    let h = site.held.now in
    let class = g.M.Model.classes site.model.now site.locus in
    let fits = g.M.Model.fitting site.model.now site.locus in
    let o = g.V.Algebra.operations in
    let costs = c.args.self.now.costs.now in
    let inv = c.loop-slot.invariant in
    let L = seen h (length costs) class fits in
    inv.2
    ∙ sym (figures_factored o g.met.V.Algebra.laws (weights o costs) L (seen_sound h (length costs) site.locus (g.M.Model.classes site.model.now) (g.M.Model.fitting site.model.now) (g.M.Model.rules site.model.now)) inv.0 (parted_all L c.loop-slot-test.false inv.1))
