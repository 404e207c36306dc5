-- The figure of a locus is the product of the sums of its components.
-- Assumes nothing.
use Rattle.std.proofs.Common.{◌≡◌, ℕ, Bool, true, false, cond, ◌&&◌, List, [], ◌∷◌, ◌++◌, sym, refl, ap, ◌∙◌, subst, ap₂, inl, inr, arith}
use Rattle.std.specs.List.{range_with_len, flat_map}
use Rattle.std.proofs.lemmas.Bool.{and_parts, and_from, cases_Bool, true≢false}
use Rattle.algebra.specs.Semiring.{Ops, Laws}
use Rattle.readings.specs.declared.class.Class.{Class}
use Rattle.readings.specs.declared.class.Class.TheVariants.{Silent, Named, Several}
use Rattle.figures.specs.Lists.{fold, every, In, Once}
use Rattle.figures.specs.Locus.{Locus, Reading, loud}
use Rattle.figures.specs.Figure.{figure}
use Rattle.figures.specs.Graph.{join, link, Component, Components, Sound, links, has, own, component_sum}
use Rattle.figures.specs.Statements.{FiguresFactored}
use Rattle.figures.proofs.Folds.{fold_cong_in, fold_joined, fold_perm}
use Rattle.figures.proofs.Members.{in_right, joined_in, in_map, in_kept, kept_in, in_counting, counting_in, once_counting, every_from, every_at, has_in, in_has}
use Rattle.figures.proofs.Perms.{Perm, same_members}
use Rattle.figures.proofs.SlotSums.{update_other, sum_cong, sum_perm, sum_factors, Local, Disjoint, absorbs_right}
use Rattle.figures.proofs.Placed.{fits_at, term_of, figure_summed, component_summed}

pub same_truth : (a b : Bool) → (a ≡ true → b ≡ true) → (b ≡ true → a ≡ true) → a ≡ b
same_truth a b f g = grind arith

pub not_loud : (c : Class) → loud c ≡ false → c ≡ Silent
not_loud Silent e = refl
not_loud (Named a b) e = absurd (true≢false e)
not_loud Several e = absurd (true≢false e)

-- the front and the rest of a list in which nothing stands twice share nothing
pub once_apart : {X : Type 0} (xs ys : List X) → Once (xs ++ ys) → (x : X) → In x xs → In x ys → ⊥
once_apart [] ys o x i j = elim i [ ]
once_apart (z ∷ xs) ys o x (inl e) j = o.0 (in_right z xs ys (subst (λ t. In t ys) e j))
once_apart (z ∷ xs) ys o x (inr i) j = once_apart xs ys o.1 x i j

once_back : {X : Type 0} (xs ys : List X) → Once (xs ++ ys) → Once ys
once_back [] ys o = o
once_back (x ∷ xs) ys o = once_back xs ys o.1

-- the link of a reading that says something
pub loud_link : (rs : List Reading) (r : Reading) → In r rs → loud r.class ≡ true → In r.ends (links rs)
loud_link rs r i e = in_map (λ q. q.ends) r _ (in_kept (λ q. loud q.class) r rs e i)

pub own_in : (ss : List ℕ) (rs : List Reading) (r : Reading) → In r (own ss rs) → In r rs × (loud r.class ≡ true) × In r.ends.0 ss
own_in ss rs r i =
    let q = kept_in (λ x. loud x.class && has ss x.ends.0) r rs i in
    let t = and_parts (loud r.class) (has ss r.ends.0) q.0 in
    (q.1, t.0, has_in ss r.ends.0 t.1)

pub in_own : (ss : List ℕ) (rs : List Reading) (r : Reading) → In r rs → loud r.class ≡ true → In r.ends.0 ss → In r (own ss rs)
in_own ss rs r i e j =
    in_kept (λ x. loud x.class && has ss x.ends.0) r rs (and_from (loud r.class) (has ss r.ends.0) e (in_has ss r.ends.0 j)) i

-- both slots of a component's own reading lie in it
pub own_inside : (L : Locus) → Sound L → (s : ℕ) (c : List ℕ) → Component L.slots (links L.readings) s c → (r : Reading) → In r (own c L.readings) → In r.ends.0 c × In r.ends.1 c
own_inside L sound s c comp r i =
    let q = own_in c L.readings r i in
    let b = sound.within r q.0 in
    let first = (comp.exactly r.ends.0).0 q.2 in
    (q.2, (comp.exactly r.ends.1).1 (b.1, join first.1 (link (loud_link L.readings r q.0 q.1))))

module _ {V : Type 0} (o : Ops V) (l : Laws o) where
  cond_product : (a b : Bool) (x y : V) → cond (a && b) (o.product x y) o.zero ≡ o.product (cond a x o.zero) (cond b y o.zero)
  cond_product true true x y = refl
  cond_product true false x y = sym (absorbs_right o l x)
  cond_product false b x y = sym (l.absorbs (cond b y o.zero))

  cond_fold : {X : Type 0} (f : X → Bool) (g : X → V) (xs : List X) → cond (every f xs) (fold o.one o.product xs g) o.zero ≡ fold o.one o.product xs (λ x. cond (f x) (g x) o.zero)
  cond_fold f g [] = refl
  cond_fold f g (x ∷ xs) =
      cond_product (f x) (every f xs) (g x) (fold o.one o.product xs g) ∙ ap (o.product (cond (f x) (g x) o.zero)) (cond_fold f g xs)

module _ {V : Type 0} (o : Ops V) (l : Laws o) (w : ℕ → V) (L : Locus) (sound : Sound L) (cs : List (List ℕ)) (comps : Components L cs) where
  reordered : Perm (range_with_len 0 L.slots) (flat_map (λ c. c) cs)
  reordered =
      same_members (range_with_len 0 L.slots) (flat_map (λ c. c) cs) (once_counting 0 L.slots) comps.once
      (λ s i. comps.all s (let b = counting_in 0 L.slots s i in omega arith))
      (λ s i. let q = joined_in (λ c. c) s cs i in let e = comps.each q.0 q.1 in in_counting 0 L.slots s (omega arith) (let b = ((e.2.exactly s).0 q.2).0 in omega arith))

  fits_split : (ρ : ℕ → ℕ) → every (fits_at ρ) L.readings ≡ every (λ c. every (fits_at ρ) (own c L.readings)) cs
  fits_split ρ = same_truth _ _ forward backward
    where
      fit : Reading → Bool
      fit = fits_at ρ

      forward : every fit L.readings ≡ true → every (λ c. every fit (own c L.readings)) cs ≡ true
      forward t =
          every_from (λ c. every fit (own c L.readings)) cs
          (λ c i. every_from fit (own c L.readings) (λ r j. every_at fit r L.readings t (own_in c L.readings r j).0))

      backward : every (λ c. every fit (own c L.readings)) cs ≡ true → every fit L.readings ≡ true
      backward t =
          every_from fit L.readings
          (λ r i. elim (cases_Bool (loud r.class)) [
            | inl e ↦ let q = joined_in (λ c. c) r.ends.0 cs (comps.all r.ends.0 (sound.within r i).0) in
                every_at fit r (own q.0 L.readings) (every_at (λ c. every fit (own c L.readings)) q.0 cs t q.1) (in_own q.0 L.readings r i e q.2)
            | inr e ↦ sound.silent r (ρ r.ends.0) (ρ r.ends.1) i (not_loud r.class e)
          ])

  term_split : (ρ : ℕ → ℕ) → term_of o w L.readings (range_with_len 0 L.slots) ρ ≡ fold o.one o.product cs (λ c. term_of o w (own c L.readings) c ρ)
  term_split ρ =
      ap₂ (λ b x. cond b x o.zero) (fits_split ρ)
      (fold_perm l.products (λ s. w (ρ s)) reordered ∙ fold_joined l.products (λ c. c) (λ s. w (ρ s)) cs)
      ∙ cond_fold o l (λ c. every (fits_at ρ) (own c L.readings)) (λ c. fold o.one o.product c (λ s. w (ρ s))) cs

  inside : (c : List ℕ) → In c cs → (r : Reading) → In r (own c L.readings) → In r.ends.0 c × In r.ends.1 c
  inside c i = let e = comps.each c i in own_inside L sound e.0 c e.2

  local : (c : List ℕ) → In c cs → Local c (term_of o w (own c L.readings) c)
  local c i s out σ a =
      ap₂ (λ b x. cond b x o.zero)
      (fold_cong_in true ◌&&◌ (own c L.readings) _ _ (λ r j. let q = inside c i r j in ap₂ r.fits (update_other σ s a r.ends.0 (λ e. out (subst (λ t. In t c) e q.0))) (update_other σ s a r.ends.1 (λ e. out (subst (λ t. In t c) e q.1)))))
      (fold_cong_in o.one o.product c _ _ (λ t j. ap w (update_other σ s a t (λ e. out (subst (λ u. In u c) e j)))))

  disjoint : (ds : List (List ℕ)) → Once (flat_map (λ c. c) ds) → Disjoint ds
  disjoint [] u = tt
  disjoint (d ∷ ds) u = (once_apart d (flat_map (λ c. c) ds) u, disjoint ds (once_back d (flat_map (λ c. c) ds) u))

  pub factored : figure o w L ≡ fold o.one o.product cs (component_sum o w L)
  factored =
      figure_summed o l L.alleles w L refl
      ∙ sum_cong o L.alleles (range_with_len 0 L.slots) _ _ (λ _. 0) term_split
      ∙ sum_perm o l L.alleles reordered _ (λ _. 0)
      ∙ sum_factors o l L.alleles cs (λ c. term_of o w (own c L.readings) c) local (disjoint cs comps.once) (λ _. 0)
      ∙ fold_cong_in o.one o.product cs _ _ (λ c i. sym (component_summed o l L.alleles w L c (λ _. 0) refl (comps.each c i).2.once (inside c i)))

pub figures_factored : {V : Type 0} (o : Ops V) → Laws o → FiguresFactored o
figures_factored o l = factored o l
