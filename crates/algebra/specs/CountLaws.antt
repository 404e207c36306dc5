-- The algebra of counts keeps the laws.
-- Assumes nothing.
use Rattle.std.proofs.Common.{ap, add_comm, mul_comm, arith}
use Rattle.algebra.specs.Semiring.{Laws}
use Rattle.algebra.specs.Count.{counted, count_ops}
use Rattle.algebra.specs.Same.{same_count}
use Rattle.algebra.specs.Caps.{cut_assoc, cut_product_assoc, cut_distributes}

pub count_laws : Laws count_ops
count_laws = record {
  sums = record {
    assoc = λ x y z. same_count _ _ (cut_assoc x.number y.number z.number);
    comm = λ x y. ap counted (add_comm x.number y.number);
    neutral = λ x. same_count _ _ (omega (arith, x.capped));
  };
  products = record {
    assoc = λ x y z. same_count _ _ (cut_product_assoc x.number y.number z.number);
    comm = λ x y. ap counted (mul_comm x.number y.number);
    neutral = λ x. same_count _ _ (omega (arith, x.capped));
  };
  distributes = λ x y z. same_count _ _ (cut_distributes x.number y.number z.number);
  absorbs = λ x. same_count _ _ (omega arith);
}
