use Rattle.std.proofs.Common.{rules}
use Rattle.sums.proofs.site.Site.figure.Goals as goal

pub returns : goal.returns
returns g c = (search rules, search rules)
