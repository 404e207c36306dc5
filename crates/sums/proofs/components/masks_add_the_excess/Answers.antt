use Rattle.sums.proofs.Masked.{excess_through_mask}
use Rattle.sums.proofs.components.masks_add_the_excess.Goals as goal

pub returns-clause-holds : goal.returns-clause-holds
returns-clause-holds g c = excess_through_mask g.V.Algebra.operations g.met.V.Algebra.laws
