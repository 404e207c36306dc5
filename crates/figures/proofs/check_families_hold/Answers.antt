use Rattle.figures.proofs.Checked.{rows_hold}
use Rattle.figures.proofs.check_families_hold.Goals as goal

pub returns-clause-holds : goal.returns-clause-holds
returns-clause-holds c = rows_hold
