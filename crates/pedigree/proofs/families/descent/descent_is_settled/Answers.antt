use Rattle.std.proofs.Common.{refl}
use Rattle.pedigree.proofs.Descents.{descent_stands, descent_settled}
use Rattle.pedigree.proofs.families.descent.descent_is_settled.Goals as goal

pub returns : goal.returns
returns c = record { stands = descent_stands; settled = descent_settled; value = refl }
