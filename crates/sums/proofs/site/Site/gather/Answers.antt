use Rattle.std.proofs.Common.{◌≡◌, ◌<◌, ◌≤◌, length, get_or, ap, ◌∙◌, subst, arith}
use Rattle.figures.specs.Graph.{links}
use Rattle.figures.specs.View.{readings_of}
use Rattle.sums.specs.Gathering.{items, reached}
use Rattle.sums.specs.Ordered.{pushed}
use Rattle.sums.specs.Seen.{told}
use Rattle.sums.proofs.Lawful.{lawful_few}
use Rattle.sums.proofs.Reaching.{gathers_first, gathers_more, gathers_all}
use Rattle.sums.proofs.Views.{links_within}
use Rattle.sums.proofs.site.Site.gather.Goals as goal

pub loop-next-init : goal.loop-next-init
loop-next-init g c =
    let s = c.args.self.now in
    let within = links_within s.held.now (g.M.Model.classes s.model.now s.locus) (g.M.Model.fitting s.model.now s.locus) in
    gathers_first within s.held.now.within.2 (c.push.ensures ∙ ap (λ ss. pushed ss c.args.slot) c.new-found.ensures) c.requires

pub loop-next-preserved : goal.loop-next-preserved
loop-next-preserved g c =
    let s = c.args.self.now in
    let h = s.held.now in
    let class = g.M.Model.classes s.model.now s.locus in
    let fits = g.M.Model.fitting s.model.now s.locus in
    let ss = items c.loop-next.found in
    let next = c.loop-next.next in
    let there = c.in-Some.ensures.lookup.3 in
    let more : next < length ss = subst (λ xs. next < length xs) c.slots.ensures.value there.0 in
    let from : c.in-Some.field-0.now ≡ get_or ss next 0 = there.1 0 ∙ ap (λ xs. get_or xs next 0) c.slots.ensures.value in
    gathers_more (links_within h class fits) h.within.2 more (c.reach.ensures ∙ ap (λ t. reached (links (readings_of (told h) class fits)) t ss) from) c.loop-next.invariant

pub returns-after-loop-next : goal.returns-after-loop-next
returns-after-loop-next g c =
    let s = c.args.self.now in
    let within = links_within s.held.now (g.M.Model.classes s.model.now s.locus) (g.M.Model.fitting s.model.now s.locus) in
    let f = c.loop-next.found in
    gathers_all within s.held.now.within.2 (omega (arith, lawful_few (items f) f.apart)) f.apart c.loop-next.invariant

pub returns-in_default : goal.returns-in_default
returns-in_default g c =
    let s = c.args.self.now in
    let within = links_within s.held.now (g.M.Model.classes s.model.now s.locus) (g.M.Model.fitting s.model.now s.locus) in
    let f = c.loop-next.found in
    gathers_all within s.held.now.within.2 (subst (λ xs. length xs ≤ c.loop-next.next) c.slots.ensures.value c.in_default.ensures.lookup.3) f.apart c.loop-next.invariant
