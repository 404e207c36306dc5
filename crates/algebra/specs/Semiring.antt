-- What a commutative semiring with weights is: its operations, and the laws that they keep.
-- Assumes nothing.
use Rattle.std.specs.Prelude.{◌≡◌, ℕ}

-- the operations on values V: a sum, a product, their neutral values, and the weight of each cost
pub record Ops (V : Type 0) : Type 0 where
  pub zero : V
  pub one : V
  pub sum : V → V → V
  pub product : V → V → V
  pub weight : ℕ → V

-- an operation with a neutral value, whose arguments may be regrouped and exchanged
pub record Commutative {V : Type 0} (unit : V) (op : V → V → V) : Type 0 where
  pub assoc : (x y z : V) → op (op x y) z ≡ op x (op y z)
  pub comm : (x y : V) → op x y ≡ op y x
  pub neutral : (x : V) → op unit x ≡ x

-- what every algebra owes for all its values
pub record Laws {V : Type 0} (o : Ops V) : Type 0 where
  pub sums : Commutative o.zero o.sum
  pub products : Commutative o.one o.product
  pub distributes : (x y z : V) → o.product x (o.sum y z) ≡ o.sum (o.product x y) (o.product x z)
  pub absorbs : (x : V) → o.product o.zero x ≡ o.zero
