-- The algebra of truth keeps the laws.
-- Assumes nothing.
use Rattle.std.specs.Prelude.{refl}
use Rattle.std.proofs.Common.{ap}
use Rattle.std.proofs.Math.Bool.{or_assoc, or_comm, and_assoc, and_comm, and-or_distrib_left}
use Rattle.algebra.specs.Semiring.{Laws}
use Rattle.algebra.specs.Truth.{told, truth_ops}

pub truth_laws : Laws truth_ops
truth_laws = record {
  sums = record {
    assoc = λ x y z. ap told (or_assoc x.yes y.yes z.yes);
    comm = λ x y. ap told (or_comm x.yes y.yes);
    neutral = λ x. refl;
  };
  products = record {
    assoc = λ x y z. ap told (and_assoc x.yes y.yes z.yes);
    comm = λ x y. ap told (and_comm x.yes y.yes);
    neutral = λ x. refl;
  };
  distributes = λ x y z. ap told (and-or_distrib_left x.yes y.yes z.yes);
  absorbs = λ x. refl;
}
