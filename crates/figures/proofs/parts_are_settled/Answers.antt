use Rattle.figures.proofs.Settled.{parts_settled}
use Rattle.figures.proofs.parts_are_settled.Goals as goal

pub returns-clause-holds : goal.returns-clause-holds
returns-clause-holds c = parts_settled
