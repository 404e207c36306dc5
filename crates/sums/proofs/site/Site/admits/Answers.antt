use Rattle.std.proofs.Common.{sym, ◌∙◌, refl, rules, tests, arith}
use Rattle.std.specs.List.{range_with_len}
use Rattle.std.proofs.lemmas.Iterator.{YieldsList-from_range}
use Rattle.std.proofs.lemmas.Iterator.Search.{all_from_yields_List}
use Rattle.sums.specs.Searching.{passes_at}
use Rattle.sums.proofs.Tests.{every_all}
use Rattle.sums.proofs.site.Site.admits.Goals as goal

pub returns : goal.returns
returns g c =
    let h = c.args.self.now.held.now in
    let test = passes_at h (g.M.Model.fitting c.args.self.now.model.now c.args.self.now.locus) c.args.alleles.now c.args.slot in
    all_from_yields_List test _ _ _ c.all.ensures.ran (YieldsList-from_range 0 h.persons h.persons refl (omega arith)) (λ x b q k. search (rules, tests)) ∙ sym (every_all test (range_with_len 0 h.persons))
