use Rattle.std.proofs.Common.{◌≡◌, true, false, set, sym, ◌∙◌, subst, arith}
use Rattle.std.proofs.lemmas.List.{length-set}
use Rattle.figures.specs.Graph.{has}
use Rattle.sums.specs.Gathering.{items}
use Rattle.sums.specs.Ordered.{Marked, lawful}
use Rattle.sums.proofs.Lawful.{room, lawful_push}
use Rattle.sums.proofs.Pushed.{marked_push}
use Rattle.sums.proofs.order.Gathered.push.Goals as goal

pub push-requires : goal.push-requires
push-requires c =
    let s = c.args.self.now in
    let new : has (items s) c.args.slot ≡ false = sym c.if-not-contains.ensures in
    (omega arith, omega (arith, room (items s) s.apart c.args.slot c.if-slot-lt-SLOTS.true new))

pub invariant_of-self : goal.invariant_of-self
invariant_of-self c =
    let s = c.args.self.now in
    let new : has (items s) c.args.slot ≡ false = sym c.if-not-contains.ensures in
    record {
      sized = length-set s.marks c.args.slot true ∙ s.sized;
      marked = subst (Marked (set s.marks c.args.slot true)) (sym c.push.ensures.items) (marked_push s.marks (items s) c.args.slot s.sized c.if-slot-lt-SLOTS.true s.marked);
      apart = subst (λ ss. lawful ss ≡ _) (sym c.push.ensures.items) (lawful_push (items s) s.apart c.args.slot c.if-slot-lt-SLOTS.true new);
    }
