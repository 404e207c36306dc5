use Rattle.algebra.proofs.Carrying.{least_carries}
use Rattle.algebra.proofs.values.Best.least.Goals as goal

pub returns-clause-carries : goal.returns-clause-carries
returns-clause-carries c = least_carries
