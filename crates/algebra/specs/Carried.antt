-- Two maps that carry one algebra to another: whether a count is above zero, and the cost of a best.
-- Assumes nothing.
use Rattle.std.specs.Prelude.{nat_lt}
use Rattle.algebra.specs.Truth.{told}
use Rattle.algebra.specs.Least.{costing}
use Rattle.algebra.specs.declared.values.Best.{Best}
use Rattle.algebra.specs.declared.values.Count.{Count}
use Rattle.algebra.specs.declared.values.Least.{Least}
use Rattle.algebra.specs.declared.values.Truth.{Truth}

-- whether anything was counted
abbrev pub any_of : Count → Truth
any_of x = told (nat_lt 0 x.number)

-- the cost without its number
abbrev pub least_of : Best → Least
least_of x = costing x.cost
