use Rattle.std.proofs.Common.{◌≡◌, map}
use Rattle.std.specs.List.{range_with_len}
use Rattle.figures.specs.Graph.{links}
use Rattle.figures.specs.View.{reading_of}
use Rattle.sums.specs.Gathering.{items, reached}
use Rattle.sums.specs.Seen.{told}
use Rattle.sums.proofs.site.Site.reach.Given as goal

abbrev pub invariant-loop-person : goal.invariant-loop-person
invariant-loop-person g l =
    let s = l.self in
    items l.found ≡ reached (links (map (reading_of (told s.held.now) (g.M.Model.classes s.model.now s.locus) (g.M.Model.fitting s.model.now s.locus)) (range_with_len 0 l.person))) l.slot (items l.initial.found)
