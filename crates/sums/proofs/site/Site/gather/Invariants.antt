use Rattle.figures.specs.Graph.{links}
use Rattle.figures.specs.View.{readings_of}
use Rattle.sums.specs.Gathering.{items}
use Rattle.sums.specs.Seen.{told}
use Rattle.sums.proofs.Reaching.{Gathers}
use Rattle.sums.proofs.site.Site.gather.Given as goal

abbrev pub invariant-loop-next : goal.invariant-loop-next
invariant-loop-next g l =
    let s = l.self in
    let h = s.held.now in
    Gathers h.slots (links (readings_of (told h) (g.M.Model.classes s.model.now s.locus) (g.M.Model.fitting s.model.now s.locus))) l.slot (items l.found) l.next
