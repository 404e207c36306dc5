use Rattle.std.proofs.Common.{arith}
use Rattle.forest.proofs.Growing.{memory_none}
use Rattle.forest.proofs.trees.Forest.pass.Goals as goal

pub invariant_of-self : goal.invariant_of-self
invariant_of-self c = memory_none c.args.self.now (omega arith)
