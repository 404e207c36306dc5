use Rattle.std.proofs.Common.{arith}
use Rattle.genotype.proofs.Order.{pair_found, code_found}
use Rattle.genotype.proofs.pair.Goals as goal

pub returns-clause-value : goal.returns-clause-value
returns-clause-value c = pair_found _ _ _ (omega arith) (omega arith) c.loop-larger.invariant.0

pub returns-clause-back : goal.returns-clause-back
returns-clause-back c = (omega arith, omega arith, omega arith, code_found _ _ _ (omega arith) (omega arith) c.loop-larger.invariant.0)
