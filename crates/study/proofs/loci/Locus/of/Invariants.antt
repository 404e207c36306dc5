use Rattle.std.proofs.Common.{◌≡◌, true, length, take}
use Rattle.study.specs.Panels.{costs_low}
use Rattle.study.proofs.loci.Locus.of.Given as goal

abbrev pub invariant-loop-i : goal.invariant-loop-i
invariant-loop-i l = record {
  room : length l.memory ≡ 16;
  kept : take l.i l.memory ≡ take l.i l.costs;
  low : costs_low (take l.i l.costs) ≡ true;
}
