use Rattle.std.proofs.Common.{false, sym, ap, ◌∙◌}
use Rattle.figures.specs.Graph.{has}
use Rattle.sums.proofs.Lawful.{blank}
use Rattle.sums.proofs.order.Gathered.new.Goals as goal

pub invariant_of-result-clause-marked : goal.invariant_of-result-clause-marked
invariant_of-result-clause-marked c s = blank 64 s false ∙ ap (λ ss. has ss s) (sym c.new.ensures)
