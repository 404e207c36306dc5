use Rattle.std.proofs.Common.{map, length, ap, sym, ◌∙◌, arith}
use Rattle.std.specs.List.{range_with_len}
use Rattle.std.specs.Result.{is_ok}
use Rattle.std.proofs.lemmas.Bool.{false≢true}
use Rattle.sums.specs.Seen.{told}
use Rattle.graph.specs.Entries.{entry_of}
use Rattle.graph.proofs.Laying.{taken, next}
use Rattle.graph.proofs.lay_all.Goals as goal

pub prove-unreachable-requires : goal.prove-unreachable-requires
prove-unreachable-requires g c =
    let l = c.loop-person in
    let ok = c.lay_person-laid.ensures.answer ∙ taken c.args.site.now.held.now (g.M.Model.classes c.args.site.now.model.now c.args.site.now.locus) _ l.person l.forest c.pairs-slots-items.ensures c.loop-person-test.true l.invariant _ in
    absurd (false≢true (sym c.if-prove.true ∙ c.is_ok.ensures.value ∙ ap is_ok ok))

pub loop-person-preserved : goal.loop-person-preserved
loop-person-preserved g c =
    let h = c.args.site.now.held.now in
    let class = g.M.Model.classes c.args.site.now.model.now c.args.site.now.locus in
    let l = c.loop-person in
    let is = c.pairs-slots-items.ensures in
    let ok = c.lay_person-laid.ensures.answer ∙ taken h class _ l.person l.forest is c.loop-person-test.true l.invariant _ in
    next h class _ l.person l.forest is c.loop-person-test.true l.invariant _ c.lay_person-laid.new.forest ok c.lay_person-laid.ensures.after

pub returns : goal.returns
returns g c =
    let h = c.args.site.now.held.now in
    let class = g.M.Model.classes c.args.site.now.model.now c.args.site.now.locus in
    c.loop-person.invariant
    ∙ ap (λ n. map (entry_of (told h) class) (range_with_len 0 n)) (omega (arith, c.loop-person-test.false, c.loop-person.auto.person-end, ap length c.pairs-slots-items.ensures))
