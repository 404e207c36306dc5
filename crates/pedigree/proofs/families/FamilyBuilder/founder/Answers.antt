use Rattle.std.proofs.Common.{refl, arith}
use Rattle.pedigree.proofs.Entering.{counted_more, lawful_more}
use Rattle.pedigree.proofs.families.FamilyBuilder.founder.Goals as goal

pub invariant_of-self-clause-counted : goal.invariant_of-self-clause-counted
invariant_of-self-clause-counted c = counted_more c.args.self.now _ _ (omega arith) (omega arith) _ refl

pub invariant_of-self-clause-lawful : goal.invariant_of-self-clause-lawful
invariant_of-self-clause-lawful c = lawful_more c.args.self.now _ _ (omega arith) (omega arith) (omega arith) refl
