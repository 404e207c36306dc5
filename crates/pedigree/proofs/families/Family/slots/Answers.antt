use Rattle.std.proofs.Common.{◌≡◌, ℕ, ◌<◌, List, length, get_or, Some, sym, ap, ◌∙◌, arith}
use Rattle.std.proofs.lemmas.List.{get_or_append_left}
use Rattle.std.proofs.lemmas.Option.{slice_get_past, slice_get-get_or}
use Rattle.pedigree.specs.declared.families.Family.{Family}
use Rattle.pedigree.specs.declared.persons.Meiosis.{Meiosis}
use Rattle.pedigree.specs.Building.{persons_of}
use Rattle.pedigree.specs.Slots.{slots_of}
use Rattle.pedigree.proofs.Descents.{descent_stands}
use Rattle.pedigree.proofs.families.Family.slots.Goals as goal

-- everybody's slots are told
all_told : (f : Family) (bs : List Meiosis) → length (slots_of (persons_of f) bs) ≡ length (persons_of f)
all_told f bs = (descent_stands (persons_of f) bs f.builder.lawful.2).0.all

pub returns-then-person-count : goal.returns-then-person-count
returns-then-person-count c =
    let f = c.args.self.now in
    sym (slice_get_past (slots_of (persons_of f) c.args.bits.now) c.args.person (omega (arith, all_told f c.args.bits.now)))

pub returns : goal.returns
returns c =
    let f = c.args.self.now in
    let slots : List (ℕ × ℕ) = slots_of (persons_of f) c.args.bits.now in
    let l : c.args.person < length slots = omega (arith, all_told f c.args.bits.now) in
    ap (λ s. Some (get_or s c.args.person (0, 0))) c.all_slots-all.ensures.value
    ∙ ap Some (get_or_append_left slots _ (0, 0) c.args.person l)
    ∙ sym (slice_get-get_or slots c.args.person (0, 0) l)
