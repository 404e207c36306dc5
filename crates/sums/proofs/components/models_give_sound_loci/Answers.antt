use Rattle.sums.proofs.Views.{seen_sound}
use Rattle.sums.proofs.components.models_give_sound_loci.Goals as goal

pub returns-clause-holds : goal.returns-clause-holds
returns-clause-holds g c = λ m h k locus. seen_sound h k locus (g.M.Model.classes m) (g.M.Model.fitting m) (g.M.Model.rules m)
