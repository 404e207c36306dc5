use Rattle.std.proofs.Common.{◌≡◌, ◌<◌, ◌≤◌, length, take, ap, ◌∙◌, ap₂, arith, rules}
use Rattle.std.proofs.lemmas.List.{get_or-take, length-take-le, take_at}
use Rattle.pedigree.specs.Building.{persons_of}
use Rattle.pedigree.specs.Slots.{slots_of}
use Rattle.pedigree.proofs.Descents.{descent_stands}
use Rattle.pedigree.proofs.Entering.{family_lawful}
use Rattle.sums.proofs.slots.Held.of.Goals as goal

pub invariant_of-result : goal.invariant_of-result
invariant_of-result c =
    let f = c.args.family.now in
    let size : length c.all_slots.result ≡ 64 = search rules in
    let few : length (persons_of f) ≤ 64 = (family_lawful f).0 in record {
      within = (
        size,
        omega (arith, c.count.ensures),
        omega (arith, c.slot_count.ensures, (family_lawful f).1),
        λ p h.
            let l : p < length (persons_of f) = omega (arith, c.count.ensures) in
            let b = c.all_slots.ensures.bound p (omega (arith, length-take-le (length (persons_of f)) c.all_slots.result (omega arith))) in
            let at = get_or-take (length (persons_of f)) c.all_slots.result p (0, 0) l in
            (omega (arith, b.0, ap (λ x. x.0) at, c.slot_count.ensures), omega (arith, b.1, ap (λ x. x.1) at, c.slot_count.ensures)),
      );
    }

pub returns-clause-told : goal.returns-clause-told
returns-clause-told c =
    let f = c.args.family.now in
    ap₂ take c.count.ensures c.all_slots.ensures.value
    ∙ take_at (slots_of (persons_of f) c.args.bits.now) _ (length (persons_of f)) (descent_stands (persons_of f) c.args.bits.now (family_lawful f).2).0.all
