use Rattle.figures.proofs.Factored.{figures_factored}
use Rattle.figures.proofs.Settled.{components_stand}
use Rattle.figures.proofs.figures_are_factored.Goals as goal

pub returns-clause-holds : goal.returns-clause-holds
returns-clause-holds g c = figures_factored g.V.Algebra.operations g.met.V.Algebra.laws

pub returns-clause-components : goal.returns-clause-components
returns-clause-components g c = components_stand
