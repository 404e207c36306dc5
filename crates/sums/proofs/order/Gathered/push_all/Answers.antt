use Rattle.std.proofs.Common.{◌<◌, length, get_or, ap, ◌∙◌, subst}
use Rattle.figures.specs.Graph.{has}
use Rattle.sums.specs.Gathering.{items}
use Rattle.sums.specs.Ordered.{pushed}
use Rattle.sums.proofs.Pushed.{has_pushed_more}
use Rattle.sums.proofs.order.Gathered.push_all.Goals as goal

pub loop-slot-preserved : goal.loop-slot-preserved
loop-slot-preserved c =
    let all = c.slots-slot-items.ensures.value in
    let more : c.loop-slot.slot-index < length (items c.args.others.now) = subst (λ xs. c.loop-slot.slot-index < length xs) all c.loop-slot-test.true in
    λ t. ap (λ ss. has ss t) c.push.ensures ∙ ap (λ xs. has (pushed (items c.loop-slot.self) (get_or xs c.loop-slot.slot-index 0)) t) all
    ∙ has_pushed_more (items c.args.self.now) (items c.loop-slot.self) (items c.args.others.now) c.loop-slot.slot-index t c.args.others.now.apart more (c.loop-slot.invariant t)
