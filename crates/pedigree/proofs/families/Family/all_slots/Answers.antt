use Rattle.std.proofs.Common.{◌≡◌, ◌≢◌, ◌+◌, ◌*◌, [], ◌∷◌, length, take, slice_index_or, sym, refl, ap, subst, arith, rules}
use Rattle.pedigree.specs.declared.persons.Person.{Person}
use Rattle.pedigree.specs.declared.persons.Person.TheVariants.{Founder, Child}
use Rattle.pedigree.specs.Families.{founders_in}
use Rattle.pedigree.specs.Building.{persons_of}
use Rattle.pedigree.specs.Slots.{bits_at, held_by, Descent, SlotsBelow}
use Rattle.pedigree.proofs.Descents.{descent_stands}
use Rattle.pedigree.proofs.Telling.{telling_more, telling_all}
use Rattle.pedigree.proofs.families.Family.all_slots.Goals as goal
use Rattle.pedigree.proofs.families.Family.all_slots.Goals.{then-eq, else-eq}

-- who is not a founder adds none
no_founder : (x : Person) → x ≢ Founder → founders_in (x ∷ []) ≡ 0
no_founder Founder other = absurd (other refl)
no_founder (Child m f) other = refl

pub loop-number-preserved : goal.loop-number-preserved
loop-number-preserved c =
    let ps = persons_of c.args.self.now in
    let l = c.loop-number in
    let x : Person = slice_index_or ps l.number Founder in
    let lent : c.persons-person-items.result.now ≡ ps = c.persons-person-items.ensures in
    let held : c.held_by.result ≡ held_by l.founders (bits_at c.args.bits.now l.number) (take l.number l.slots) x = rw lent at c.held_by.ensures in
    let count_on : c.if-eq.founders ≡ l.founders + founders_in (x ∷ []) =
    elim c.if-eq.branch [
      | then-eq w ↦ let is : x ≡ Founder = search rules in rw is w.founders-is
      | else-eq w ↦ let other : x ≢ Founder = search rules in omega (arith, no_founder x other, w.founders-is)
    ] in
    rw held (telling_more ps c.args.bits.now l.slots l.founders l.number l.invariant c.if-eq.founders x c.args.self.now.builder.lawful.0 (omega (arith, ap length lent)) refl count_on)

pub returns : goal.returns
returns c =
    let ps = persons_of c.args.self.now in
    let bs = c.args.bits.now in
    let l = c.loop-number in
    let lent : c.persons-person-items.result.now ≡ ps = c.persons-person-items.ensures in
    let told = telling_all ps bs l.slots l.founders l.number l.invariant (omega (arith, ap length lent)) in
    let stands = descent_stands ps bs c.args.self.now.builder.lawful.2 in
    record {
      value = told.1;
      descent = subst (Descent ps bs) (sym told.0) stands.0;
      bound = subst (SlotsBelow (2 * founders_in ps)) (sym told.0) stands.1;
    }
