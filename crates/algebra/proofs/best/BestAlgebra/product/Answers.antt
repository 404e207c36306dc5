use Rattle.std.proofs.Common.{mul-pos, arith}
use Rattle.std.proofs.lemmas.Bool.Decides.{nat_tests}
use Rattle.algebra.specs.BestSums.{live}
use Rattle.algebra.proofs.best.BestAlgebra.product.Goals as goal

pub invariant_of-result-clause-reached : goal.invariant_of-result-clause-reached
invariant_of-result-clause-reached c = grind (arith, nat_tests, mul-pos, live)
