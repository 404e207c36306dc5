-- Two values of an algebra with the same numbers are one value: what else they hold has one proof at most.
-- Assumes nothing.
use Rattle.std.specs.Prelude.{◌≡◌, ◌≤◌, ◌==◌}
use mathlib.Core.HLevel.{is_prop→PathP}
use Rattle.std.proofs.Math.Bool.{Bool-set}
use Rattle.std.proofs.Math.Bridge.{le_prop}
use Rattle.algebra.specs.declared.values.Best.{Best}
use Rattle.algebra.specs.declared.values.Count.{Count}
use Rattle.algebra.specs.declared.values.Least.{Least}

pub same_count : (x y : Count) → x.number ≡ y.number → x ≡ y
same_count x y e = λ i. record {
  number = e i;
  capped = is_prop→PathP (λ j. e j ≤ 4294967295) (λ j. le_prop) x.capped y.capped i;
}

pub same_least : (x y : Least) → x.cost ≡ y.cost → x ≡ y
same_least x y e = λ i. record {
  cost = e i;
  capped = is_prop→PathP (λ j. e j ≤ 4294967295) (λ j. le_prop) x.capped y.capped i;
}

pub same_best : (x y : Best) → x.cost ≡ y.cost → x.number ≡ y.number → x ≡ y
same_best x y c n = λ i. record {
  cost = c i;
  number = n i;
  capped = is_prop→PathP (λ j. c j ≤ 4294967295) (λ j. le_prop) x.capped y.capped i;
  counted = is_prop→PathP (λ j. n j ≤ 4294967295) (λ j. le_prop) x.counted y.counted i;
  reached =
      is_prop→PathP (λ j. (c j == 4294967295) ≡ (n j == 0)) (λ j. Bool-set (c j == 4294967295) (n j == 0)) x.reached y.reached
      i;
}
