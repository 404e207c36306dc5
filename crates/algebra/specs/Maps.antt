-- What it means that a map carries one algebra to another.
-- Assumes nothing.
use Rattle.std.specs.Prelude.{◌≡◌, ℕ, ◌≤◌}
use Rattle.algebra.specs.Semiring.{Ops}

-- h takes zero, one, sums, products and the weight of each cost to those of the other algebra; a cost is at most 65535
pub record Carries {V W : Type 0} (o : Ops V) (p : Ops W) (h : V → W) : Type 0 where
  pub zero : h o.zero ≡ p.zero
  pub one : h o.one ≡ p.one
  pub sum : (x y : V) → h (o.sum x y) ≡ p.sum (h x) (h y)
  pub product : (x y : V) → h (o.product x y) ≡ p.product (h x) (h y)
  pub weight : (c : ℕ) → c ≤ 65535 → h (o.weight c) ≡ p.weight c
