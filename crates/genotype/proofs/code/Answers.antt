use Rattle.std.proofs.Common.{◌+◌, ◌*◌, refl, arith}
use Rattle.genotype.proofs.Table.{entry}
use Rattle.genotype.proofs.Order.{code_back}
use Rattle.genotype.proofs.code.Goals as goal

pub returns-clause-value : goal.returns-clause-value
returns-clause-value c = entry _ _ _ (16 * c.from.result + c.from-2.result) refl (omega arith) (omega arith) (omega arith)

pub returns-clause-back : goal.returns-clause-back
returns-clause-back c =
    code_back c.args.a c.args.b _ (entry _ _ _ (16 * c.from.result + c.from-2.result) refl (omega arith) (omega arith) (omega arith))
