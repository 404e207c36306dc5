use Rattle.figures.proofs.AtMostTwo.{two_at_most}
use Rattle.figures.proofs.named_components_have_two_at_most.Goals as goal

pub returns-clause-holds : goal.returns-clause-holds
returns-clause-holds c = two_at_most
