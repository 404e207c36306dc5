use Rattle.study.proofs.Lawful.{lawful}
use Rattle.study.proofs.panels.PanelBuilder.close.Goals as goal

pub returns-clause-lawful : goal.returns-clause-lawful
returns-clause-lawful c = lawful c.args.self.now
