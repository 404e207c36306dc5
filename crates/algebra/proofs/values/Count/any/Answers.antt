use Rattle.algebra.proofs.Carrying.{any_carries}
use Rattle.algebra.proofs.values.Count.any.Goals as goal

pub returns-clause-carries : goal.returns-clause-carries
returns-clause-carries c = any_carries
