use Rattle.std.proofs.Common.{◌≡◌, ℕ, false, List, length}
use Rattle.figures.specs.Graph.{links}
use Rattle.figures.specs.Lists.{In}
use Rattle.sums.specs.Gathering.{items}
use Rattle.sums.specs.Seen.{readings_at}
use Rattle.sums.specs.Widths.{too_wide}
use Rattle.sums.proofs.Parting.{Parted}
use Rattle.sums.proofs.priced.Priced.is_wide.Given as goal

abbrev pub invariant-loop-slot : goal.invariant-loop-slot
invariant-loop-slot g l =
    let site = l.self.site.now in
    let classes = g.M.Model.classes in
    (cs : List (List ℕ)) × Parted site.held.now.slots (links (readings_at classes g.M.Model.fitting site)) (items l.gathered) l.slot cs × ((c : List ℕ) → In c cs → too_wide site.held.now (classes site.model.now site.locus) (length l.self.costs.now) c ≡ false)
