use Rattle.pedigree.specs.Building.{persons_of}
use Rattle.pedigree.proofs.Telling.{Telling}
use Rattle.pedigree.proofs.families.Family.all_slots.Given as goal

abbrev pub invariant-loop-number : goal.invariant-loop-number
invariant-loop-number l = Telling (persons_of l.self) l.bits l.slots l.founders l.number
