-- How the values of the algebras are printed. Assumes nothing.
use Rattle.std.specs.Prelude.{ℕ, List, [], ◌++◌, if◌then◌else◌, ◌==◌, codes, decimal}
use Rattle.algebra.specs.declared.values.Best.{Best}
use Rattle.algebra.specs.declared.values.Count.{Count}
use Rattle.algebra.specs.declared.values.Least.{Least}
use Rattle.algebra.specs.declared.values.Truth.{Truth}

abbrev pub truth_text : Truth → List ℕ
truth_text t = if t.yes then codes "yes" else codes "no"

-- a number that stopped at the cap has a plus behind it
abbrev pub number_text : ℕ → List ℕ
number_text n = decimal n ++ (if n == 4294967295 then codes "+" else [])

abbrev pub count_text : Count → List ℕ
count_text c = number_text c.number

-- a cost at the cap is none
abbrev pub least_text : Least → List ℕ
least_text l = if l.cost == 4294967295 then codes "none" else decimal l.cost

-- the cost, a space, and how many reach it; none where there is no cost
abbrev pub best_text : Best → List ℕ
best_text b = if b.cost == 4294967295 then codes "none" else (decimal b.cost ++ codes " " ++ number_text b.number)
