use Rattle.std.proofs.Common.{◌≡◌, ℕ, ◌<◌, set, Some, List, [], ◌∷◌, ◌++◌, length, sym, ap, ◌∙◌, subst, ap₂, cond, inl, inr, refl, append_assoc, arith, rules}
use Rattle.std.specs.List.{range_with_len}
use Rattle.std.proofs.lemmas.List.{nil_from_length}
use Rattle.figures.specs.Figure.{weights}
use Rattle.figures.specs.Lists.{fold, In}
use Rattle.figures.specs.View.{readings_of}
use Rattle.figures.proofs.Searched.{searched}
use Rattle.figures.proofs.SlotSums.{update}
use Rattle.readings.specs.declared.class.Class.TheVariants.{Silent}
use Rattle.sums.specs.Searching.{Searching, Inside, env, fits_order}
use Rattle.sums.specs.Seen.{told}
use Rattle.sums.proofs.Searches.{part, all_fit, goes_on, gives_up, env_set, part_more, part_none}
use Rattle.sums.proofs.priced.Priced.+search.Goals as goal
use Rattle.sums.proofs.priced.Priced.+search.Goals.{then-admits, else-admits}

pub returns-in_default : goal.returns-in_default
returns-in_default g t c =
    let site = c.args.self.now.site.now in
    let h = site.held.now in
    let class = g.M.Model.classes site.model.now site.locus in
    let fits = g.M.Model.fitting site.model.now site.locus in
    let o = g.V.Algebra.operations in
    let costs = c.args.self.now.costs.now in
    let rs = readings_of (told h) class fits in
    let none : c.args.slots.now ≡ [] = nil_from_length c.args.slots.now c.in_default.ensures.cases in
    λ done s inside.
    c.one.ensures ∙ ap (λ b. cond b o.one o.zero) (sym (all_fit h class fits done c.args.alleles c.args.slots.now none s inside))
    ∙ ap (λ ss. searched o (length costs) (weights o costs) (fits_order (done ++ c.args.slots.now) rs) ss (env c.args.alleles)) (sym none)

pub offset_bounds-more-slot : goal.offset_bounds-more-slot
offset_bounds-more-slot g t c = omega (arith, c.requires c.in-Some.field-0-0.now (subst (In c.in-Some.field-0-0.now) (sym c.in-Some.ensures.cases.0) (inl refl)))

pub bounds-more-slot : goal.bounds-more-slot
bounds-more-slot g t c = c.requires c.in-Some.field-0-0.now (subst (In c.in-Some.field-0-0.now) (sym c.in-Some.ensures.cases.0) (inl refl))

pub search-sum-requires : goal.search-sum-requires
search-sum-requires g t c κs within =
    (omega (arith, c.in-Some.ensures.cases.1), (within.0, (within.1, λ u i. c.requires u (subst (In u) (sym c.in-Some.ensures.cases.0) (inr i)))))

pub loop-allele-preserved : goal.loop-allele-preserved
loop-allele-preserved g t c =
    let site = c.args.self.now.site.now in
    let h = site.held.now in
    let class = g.M.Model.classes site.model.now site.locus in
    let fits = g.M.Model.fitting site.model.now site.locus in
    let o = g.V.Algebra.operations in
    let laws = g.met.V.Algebra.laws in
    let costs = c.args.self.now.costs.now in
    let k = length costs in
    let w = weights o costs in
    let rs = readings_of (told h) class fits in
    let slot = c.in-Some.field-0-0.now in
    let rest = c.in-Some.rest.now in
    let xs = c.args.alleles in
    let a = c.loop-allele.allele in
    let size : length xs ≡ 64 = search rules in
    let small : slot < length xs = omega (arith, c.requires slot (subst (In slot) (sym c.in-Some.ensures.cases.0) (inl refl))) in
    let updated = env_set xs slot a small in
    elim c.if-admits.branch [
      | then-admits v ↦
          λ done s inside.
          let test = fits_order (done ++ slot ∷ rest) rs in
          let same : (done ++ slot ∷ []) ++ rest ≡ done ++ slot ∷ rest = append_assoc done (slot ∷ []) rest in
          let sum : v.search-sum.result ≡ searched o k w test rest (update (env xs) slot a) = v.search-sum.ensures (done ++ slot ∷ []) (goes_on h class fits done xs slot rest s small a (sym v.if-admits.ensures)) (subst (λ ss. Inside ss rs) (sym same) inside) ∙ ap (λ ss. searched o k w (fits_order ss rs) rest (env (set xs slot (Some a)))) same ∙ ap (searched o k w test rest) updated in
          v.total-is ∙ part_more o laws k w test slot rest (env xs) c.loop-allele.total v.sum-total.result a (c.loop-allele.invariant done s inside) (v.sum-total.ensures ∙ ap (o.sum c.loop-allele.total) (v.product.ensures ∙ ap₂ o.product v.weight.ensures sum))
      | else-admits v ↦
          λ done s inside.
          let test = fits_order (done ++ slot ∷ rest) rs in
          let silent = λ (p x y : ℕ) (e : class p ≡ Silent). (g.M.Model.rules site.model.now).silent site.locus p x y e in
          v.total-is ∙ part_none o laws k w test slot rest (env xs) c.loop-allele.total a (c.loop-allele.invariant done s inside) (ap (searched o k w test rest) (sym updated) ∙ gives_up h class fits done xs slot rest s small a o laws k w silent (sym v.if-admits.ensures))
    ]

pub returns : goal.returns
returns g t c =
    let site = c.args.self.now.site.now in
    let h = site.held.now in
    let class = g.M.Model.classes site.model.now site.locus in
    let fits = g.M.Model.fitting site.model.now site.locus in
    let o = g.V.Algebra.operations in
    let costs = c.args.self.now.costs.now in
    let rs = readings_of (told h) class fits in
    let slots : c.args.slots.now ≡ c.in-Some.field-0-0.now ∷ c.in-Some.rest.now = c.in-Some.ensures.cases.0 in
    let P : List ℕ → Type 0 = λ ss. (done : List ℕ) → Searching h fits done ss c.args.alleles → Inside (done ++ ss) rs → c.loop-allele.total ≡ searched o (length costs) (weights o costs) (fits_order (done ++ ss) rs) ss (env c.args.alleles) in
    let all : c.loop-allele.allele ≡ length costs = omega arith in
    subst P (sym slots)
    (λ done s inside.
    c.loop-allele.invariant done s inside
    ∙ ap (λ n. fold o.zero o.sum (range_with_len 0 n) (part o (length costs) (weights o costs) (fits_order (done ++ c.in-Some.field-0-0.now ∷ c.in-Some.rest.now) rs) c.in-Some.field-0-0.now c.in-Some.rest.now (env c.args.alleles))) all)
