use Rattle.figures.proofs.Carried.{figures_carried}
use Rattle.figures.proofs.figures_are_carried.Goals as goal

pub returns-clause-holds : goal.returns-clause-holds
returns-clause-holds g c = figures_carried g.V.Algebra.operations g.W.Algebra.operations
