use Rattle.figures.proofs.Assigned.{listed}
use Rattle.figures.proofs.assignments_are_listed.Goals as goal

pub returns-clause-holds : goal.returns-clause-holds
returns-clause-holds c = listed
