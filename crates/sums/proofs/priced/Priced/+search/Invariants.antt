use Rattle.std.proofs.Common.{◌≡◌, ℕ, List, ◌∷◌, ◌++◌, length}
use Rattle.std.specs.List.{range_with_len}
use Rattle.figures.specs.Figure.{weights}
use Rattle.figures.specs.Lists.{fold}
use Rattle.figures.specs.View.{readings_of}
use Rattle.sums.specs.Searching.{Searching, Inside, env, fits_order}
use Rattle.sums.specs.Seen.{told}
use Rattle.sums.proofs.Searches.{part}
use Rattle.sums.proofs.priced.Priced.+search.Given as goal

abbrev pub decreases-search : goal.decreases-search
decreases-search g l = length l.slots.now

abbrev pub invariant-loop-allele : goal.invariant-loop-allele
invariant-loop-allele g l =
    let site = l.self.site.now in
    let h = site.held.now in
    let fits = g.M.Model.fitting site.model.now site.locus in
    let rs = readings_of (told h) (g.M.Model.classes site.model.now site.locus) fits in
    let o = g.V.Algebra.operations in
    let costs = l.self.costs.now in
    let slots = l.slot ∷ l.rest in
    (done : List ℕ) → Searching h fits done slots l.alleles → Inside (done ++ slots) rs → l.total ≡ fold o.zero o.sum (range_with_len 0 l.allele) (part o (length costs) (weights o costs) (fits_order (done ++ slots) rs) l.slot l.rest (env l.alleles))
