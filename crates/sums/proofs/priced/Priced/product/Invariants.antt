use Rattle.std.proofs.Common.{◌≡◌, ℕ, List, length}
use Rattle.figures.specs.Figure.{weights}
use Rattle.figures.specs.Graph.{links, component_sum}
use Rattle.figures.specs.Lists.{fold}
use Rattle.sums.specs.Gathering.{items}
use Rattle.sums.specs.Seen.{locus_at, readings_at}
use Rattle.sums.proofs.Parting.{Parted}
use Rattle.sums.proofs.priced.Priced.product.Given as goal

abbrev pub invariant-loop-slot : goal.invariant-loop-slot
invariant-loop-slot g l =
    let site = l.self.site.now in
    let m = g.M.Model in
    let o = g.V.Algebra.operations in
    let costs = l.self.costs.now in
    (cs : List (List ℕ)) × Parted site.held.now.slots (links (readings_at m.classes m.fitting site)) (items l.gathered) l.slot cs × (l.total ≡ fold o.one o.product cs (component_sum o (weights o costs) (locus_at m.classes m.fitting site (length costs))))
