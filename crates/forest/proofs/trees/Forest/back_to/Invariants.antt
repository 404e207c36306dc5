use Rattle.std.proofs.Common.{◌≡◌, ◌+◌, length, take}
use Rattle.forest.specs.Laid.{laid}
use Rattle.forest.proofs.trees.Forest.back_to.Given as goal

-- each turn takes one person back, and the persons before the one asked for are as they were
abbrev pub invariant-loop : goal.invariant-loop
invariant-loop l = record {
  left : length (laid l.self) + l.counter ≡ length (laid l.initial.self) + l.person;
  same : take l.person (laid l.self) ≡ take l.person (laid l.initial.self);
}
