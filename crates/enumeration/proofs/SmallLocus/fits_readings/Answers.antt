use Rattle.std.proofs.Common.{◌<◌, true, false, length, sym, subst, rules}
use Rattle.std.proofs.lemmas.Iterator.{YieldsList-from_slice, cases_from_all}
use Rattle.std.proofs.lemmas.Iterator.Adapters.{serves_from_places}
use Rattle.std.proofs.lemmas.Iterator.Consumers.{YieldsList-from_enumerate}
use Rattle.pedigree.specs.Slots.{SlotsBelow}
use Rattle.enumeration.proofs.Steps.{person_below, fits_at, fits_each}
use Rattle.enumeration.proofs.SmallLocus.fits_readings.Goals as goal

pub all-requires-clause-callable : goal.all-requires-clause-callable
all-requires-clause-callable g c =
    let S = c.args.self.now in
    let ρ = c.args.alleles.now in
    let below : SlotsBelow (length ρ) S.held.now = subst (λ n. SlotsBelow n S.held.now) (sym c.requires) S.held_below in
    serves_from_places (YieldsList-from_enumerate (YieldsList-from_slice S.held.now (cc)) (cc)) (λ x q k. search rules)
    (λ x k h e. let b : (x.1.now.0 < length ρ) × (x.1.now.1 < length ρ) = person_below S.held.now (length ρ) below (x.0, x.1.now) k h e in search rules)

pub returns : goal.returns
returns g c =
    let S = c.args.self.now in
    let class = g.M.Model.classes S.model.now S.locus in
    let fit = g.M.Model.fitting S.model.now S.locus in
    let ρ = c.args.alleles.now in
    fits_each S.held.now class fit ρ c.all.result
    (cases_from_all _ _ _ (fits_at S.held.now class fit ρ true) (fits_at S.held.now class fit ρ false) c.all.ensures.ran (YieldsList-from_enumerate (YieldsList-from_slice S.held.now (cc)) (cc)) (λ x q k. search rules) (λ x q k. search rules))
