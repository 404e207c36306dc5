-- The algebra of least costs keeps the laws.
-- Assumes nothing.
use Rattle.std.proofs.Common.{ap, add_comm, arith}
use Rattle.std.proofs.Math.Nat.{min_comm}
use Rattle.algebra.specs.Semiring.{Laws}
use Rattle.algebra.specs.Least.{costing, least_ops}
use Rattle.algebra.specs.Same.{same_least}
use Rattle.algebra.specs.Caps.{cut_assoc, cut_min_assoc, cut_min_distributes}

pub least_laws : Laws least_ops
least_laws = record {
  sums = record {
    assoc = λ x y z. same_least _ _ (cut_min_assoc x.cost y.cost z.cost);
    comm = λ x y. ap costing (min_comm x.cost y.cost);
    neutral = λ x. same_least _ _ (omega (arith, x.capped));
  };
  products = record {
    assoc = λ x y z. same_least _ _ (cut_assoc x.cost y.cost z.cost);
    comm = λ x y. ap costing (add_comm x.cost y.cost);
    neutral = λ x. same_least _ _ (omega (arith, x.capped));
  };
  distributes = λ x y z. same_least _ _ (cut_min_distributes x.cost y.cost z.cost);
  absorbs = λ x. same_least _ _ (omega arith);
}
