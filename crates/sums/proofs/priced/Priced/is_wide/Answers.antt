use Rattle.std.proofs.Common.{◌∷◌, length, sym, rules}
use Rattle.sums.specs.Gathering.{items}
use Rattle.sums.specs.Seen.{seen}
use Rattle.sums.proofs.Parting.{parted_old, parted_new, parted_all, wide_some, wide_none, narrow_more}
use Rattle.sums.proofs.priced.Priced.is_wide.Goals as goal

pub loop-slot-preserved-then-contains : goal.loop-slot-preserved-then-contains
loop-slot-preserved-then-contains g c =
    let inv = c.loop-slot.invariant in (inv.0, parted_old inv.1 (sym c.if-contains.ensures), inv.2)

pub returns-then-is_too_wide : goal.returns-then-is_too_wide
returns-then-is_too_wide g c =
    let site = c.args.self.now.site.now in
    (λ _. wide_some site.held.now (g.M.Model.classes site.model.now site.locus) (g.M.Model.fitting site.model.now site.locus) (length c.args.self.now.costs.now) c.loop-slot.slot (items c.gather.new.component) c.loop-slot-test.true c.gather.ensures (sym c.if-is_too_wide.ensures), λ _. search rules)

pub loop-slot-preserved : goal.loop-slot-preserved
loop-slot-preserved g c =
    let inv = c.loop-slot.invariant in
    (items c.gather.new.component ∷ inv.0, parted_new inv.1 c.loop-slot-test.true c.gather.ensures (sym c.if-contains.ensures) c.push_all.ensures, narrow_more _ (items c.gather.new.component) inv.0 (sym c.if-is_too_wide.ensures) inv.2)

pub returns : goal.returns
returns g c =
    let site = c.args.self.now.site.now in
    let class = g.M.Model.classes site.model.now site.locus in
    let fits = g.M.Model.fitting site.model.now site.locus in
    let inv = c.loop-slot.invariant in
    let k = length c.args.self.now.costs.now in
    (λ e. search rules, λ w. absurd (wide_none site.held.now class fits k inv.0 (parted_all (seen site.held.now k class fits) c.loop-slot-test.false inv.1) inv.2 w))
