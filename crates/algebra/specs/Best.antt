-- The algebra of the best: the least cost with how many reach it.
-- Assumes nothing.
use Rattle.std.specs.Prelude.{ℕ, ◌+◌, ◌*◌, min, if◌then◌else◌, ◌==◌}
use Rattle.algebra.specs.Semiring.{Ops}
use Rattle.algebra.specs.declared.values.Best.{Best}
use Rattle.algebra.specs.Ranks.{exists, rank_capped, rank_counted, rank_reached}

-- the cost c reached n times; none where c reaches the cap or n is 0
abbrev pub ranked : ℕ → ℕ → Best
ranked c n = record {
  cost = if exists c n then c else 4294967295;
  number = if exists c n then min n 4294967295 else 0;
  capped = rank_capped c n;
  counted = rank_counted c n;
  reached = rank_reached c n;
}

-- how often a value reaches the cost c
abbrev pub reaching : ℕ → Best → ℕ
reaching c x = if x.cost == c then x.number else 0

-- the smaller cost, with the numbers of those that reach it added; costs added and numbers multiplied; an allele reaches its cost once
abbrev pub best_ops : Ops Best
best_ops = record {
  zero = ranked 4294967295 0;
  one = ranked 0 1;
  sum = λ x y. let c = min x.cost y.cost in ranked c (reaching c x + reaching c y);
  product = λ x y. ranked (x.cost + y.cost) (x.number * y.number);
  weight = λ c. ranked c 1;
}
