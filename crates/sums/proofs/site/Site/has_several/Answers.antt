use Rattle.std.proofs.Common.{ℕ, ◌&&◌, ap, ◌∙◌, rules, tests, sym, zero-add, arith}
use Rattle.std.specs.List.{range_with_len, list_any, enumerate_from}
use Rattle.std.proofs.lemmas.Iterator.{YieldsList-from_slice}
use Rattle.std.proofs.lemmas.Iterator.Consumers.{YieldsList-from_enumerate}
use Rattle.std.proofs.lemmas.Iterator.Search.{any_from_yields_List}
use Rattle.figures.specs.Graph.{has}
use Rattle.figures.specs.Lists.{some_passes}
use Rattle.sums.specs.Gathering.{items}
use Rattle.sums.specs.Searching.{pair_of}
use Rattle.sums.specs.Seen.{told}
use Rattle.sums.specs.Widths.{is_several}
use Rattle.sums.proofs.Tests.{some_numbered}
use Rattle.sums.proofs.Views.{told_at, told_length}
use Rattle.sums.proofs.site.Site.has_several.Goals as goal

pub returns : goal.returns
returns g c =
    let site = c.args.self.now in
    let h = site.held.now in
    let class = g.M.Model.classes site.model.now site.locus in
    let fits = g.M.Model.fitting site.model.now site.locus in
    let test = λ (x : ℕ × (ℕ × ℕ)). is_several (class x.0) && has (items c.args.found.now) x.1.0 in
    any_from_yields_List test _ _ _ c.any.ensures.ran (YieldsList-from_enumerate (YieldsList-from_slice c.pairs.result.now (search rules)) (search rules)) (λ x b q k. search (rules, tests))
    ∙ ap (λ xs. list_any test (enumerate_from 0 xs)) c.pairs.ensures
    ∙ some_numbered test (0, 0) (pair_of h) 0 (told h) (λ i l. told_at h class fits i (omega (arith, told_length h class fits)) ∙ ap (pair_of h) (sym (zero-add i)))
    ∙ ap (λ n. some_passes (λ p. test (p, pair_of h p)) (range_with_len 0 n)) (told_length h class fits)
