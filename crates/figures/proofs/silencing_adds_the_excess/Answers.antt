use Rattle.figures.proofs.Silencing.{excess_added}
use Rattle.figures.proofs.silencing_adds_the_excess.Goals as goal

pub returns-clause-holds : goal.returns-clause-holds
returns-clause-holds g c = excess_added g.V.Algebra.operations g.met.V.Algebra.laws
