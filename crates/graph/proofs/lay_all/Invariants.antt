use Rattle.std.proofs.Common.{◌≡◌, map}
use Rattle.std.specs.List.{range_with_len}
use Rattle.forest.specs.Laid.{laid}
use Rattle.sums.specs.Seen.{told}
use Rattle.graph.specs.Entries.{entry_of}
use Rattle.graph.proofs.lay_all.Given as goal

abbrev pub invariant-loop-person : goal.invariant-loop-person
invariant-loop-person g l =
    laid l.forest ≡ map (entry_of (told l.site.held.now) (g.M.Model.classes l.site.model.now l.site.locus)) (range_with_len 0 l.person)
