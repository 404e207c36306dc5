-- When there is a cost with a number, and the bounds of both.
-- Assumes nothing.
use Rattle.std.specs.Prelude.{◌≡◌, ℕ, ◌≤◌, min, Bool, if◌then◌else◌, ◌&&◌, ◌==◌, nat_lt}
use Rattle.std.proofs.Common.{arith}
use Rattle.std.proofs.lemmas.Bool.Decides.{nat_tests}

-- a cost below the cap that is reached at least once
abbrev pub exists : ℕ → ℕ → Bool
exists c n = nat_lt c 4294967295 && nat_lt 0 n

pub rank_capped : (c n : ℕ) → (if exists c n then c else 4294967295) ≤ 4294967295
rank_capped c n = grind (arith, nat_tests)

pub rank_counted : (c n : ℕ) → (if exists c n then min n 4294967295 else 0) ≤ 4294967295
rank_counted c n = grind (arith, nat_tests)

pub rank_reached : (c n : ℕ) → ((if exists c n then c else 4294967295) == 4294967295) ≡ ((if exists c n then min n 4294967295 else 0) == 0)
rank_reached c n = grind (arith, nat_tests)
