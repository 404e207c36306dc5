use Rattle.std.proofs.Common.{arith, rules}
use Rattle.pedigree.proofs.Entering.{counted_more, lawful_more}
use Rattle.pedigree.proofs.families.FamilyBuilder.child.Goals as goal

pub invariant_of-self-clause-counted : goal.invariant_of-self-clause-counted
invariant_of-self-clause-counted c = counted_more c.args.self.now _ _ (omega arith) (omega arith) _ (omega arith)

pub invariant_of-self-clause-lawful : goal.invariant_of-self-clause-lawful
invariant_of-self-clause-lawful c = lawful_more c.args.self.now _ _ (omega arith) (omega arith) (omega arith) (search rules)
