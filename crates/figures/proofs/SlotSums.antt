-- Sums over the alleles of some slots, one slot after the other: in which order does not matter, and what depends on other slots comes out.
-- Assumes nothing.
use Rattle.std.proofs.Common.{◌≡◌, ℕ, cond, eqb, List, [], ◌∷◌, ◌++◌, sym, refl, ap, ◌∙◌, ap₂, inl, inr, arith}
use mathlib.Core.Path.{fun_ext}
use Rattle.std.specs.List.{range_with_len, flat_map}
use Rattle.std.proofs.lemmas.Bool.{cases_eq, eq-eqb, ne_eqb, cond-true, cond-false}
use Rattle.std.proofs.lemmas.Bool.Decides.{nat_tests}
use Rattle.algebra.specs.Semiring.{Ops, Laws}
use Rattle.figures.specs.Lists.{fold, In}
use Rattle.figures.proofs.Folds.{fold_cong, fold_cong_in, fold_swap}
use Rattle.figures.proofs.Members.{in_joined}
use Rattle.figures.proofs.Perms.{Perm, done, keep, swap, next}

-- the alleles with that of slot s replaced
abbrev pub update : (ℕ → ℕ) → ℕ → ℕ → ℕ → ℕ
update ρ s a t = cond (eqb t s) a (ρ t)

pub update_same : (ρ : ℕ → ℕ) (s a : ℕ) → update ρ s a s ≡ a
update_same ρ s a = cond-true (eqb s s) a (ρ s) (eq-eqb s s refl)

pub update_other : (ρ : ℕ → ℕ) (s a t : ℕ) → (t ≡ s → ⊥) → update ρ s a t ≡ ρ t
update_other ρ s a t ne = cond-false (eqb t s) a (ρ t) (ne_eqb t s ne)

pub update_twice : (ρ : ℕ → ℕ) (s a b : ℕ) → update (update ρ s a) s b ≡ update ρ s b
update_twice ρ s a b = fun_ext (λ t. grind (arith, nat_tests))

pub update_comm : (ρ : ℕ → ℕ) (s t a b : ℕ) → (s ≡ t → ⊥) → update (update ρ s a) t b ≡ update (update ρ t b) s a
update_comm ρ s t a b ne = fun_ext (λ u. grind (arith, nat_tests))

module _ {V : Type 0} (o : Ops V) (k : ℕ) where
  -- the sum over all alleles below k of the slots listed, the others as ρ has them
  abbrev pub sum_slots : List ℕ → ((ℕ → ℕ) → V) → (ℕ → ℕ) → V
  sum_slots [] F ρ = F ρ
  sum_slots (s ∷ ss) F ρ = fold o.zero o.sum (range_with_len 0 k) (λ a. sum_slots ss F (update ρ s a))

  pub sum_cong : (ss : List ℕ) (F G : (ℕ → ℕ) → V) (ρ : ℕ → ℕ) → ((σ : ℕ → ℕ) → F σ ≡ G σ) → sum_slots ss F ρ ≡ sum_slots ss G ρ
  sum_cong ss F G ρ e = ap (λ H. sum_slots ss H ρ) (fun_ext e)

  pub sum_append : (ss ts : List ℕ) (F : (ℕ → ℕ) → V) (ρ : ℕ → ℕ) → sum_slots (ss ++ ts) F ρ ≡ sum_slots ss (sum_slots ts F) ρ
  sum_append [] ts F ρ = refl
  sum_append (s ∷ ss) ts F ρ = fold_cong o.zero o.sum (range_with_len 0 k) _ _ (λ a. sum_append ss ts F (update ρ s a))

  -- what does not depend on a slot has a sum that does not
  pub sum_ignores : (s : ℕ) (ss : List ℕ) (F : (ℕ → ℕ) → V) → ((σ : ℕ → ℕ) (a : ℕ) → F (update σ s a) ≡ F σ) → (ρ : ℕ → ℕ) (a : ℕ) → sum_slots ss F (update ρ s a) ≡ sum_slots ss F ρ
  sum_ignores s [] F e ρ a = e ρ a
  sum_ignores s (t ∷ ts) F e ρ a =
      fold_cong o.zero o.sum (range_with_len 0 k) _ _
      (λ b. elim (cases_eq s t) [
        | inl q ↦ ap (λ u. sum_slots ts F (update (update ρ u a) t b)) q ∙ ap (sum_slots ts F) (update_twice ρ t a b)
        | inr ne ↦ ap (sum_slots ts F) (update_comm ρ s t a b ne) ∙ sum_ignores s ts F e (update ρ t b) a
      ])

  -- only assignments that leave slot s alone are summed over, where it is not listed
  pub sum_at : (s : ℕ) (ss : List ℕ) → (In s ss → ⊥) → (F G : (ℕ → ℕ) → V) (ρ : ℕ → ℕ) → ((σ : ℕ → ℕ) → σ s ≡ ρ s → F σ ≡ G σ) → sum_slots ss F ρ ≡ sum_slots ss G ρ
  sum_at s [] out F G ρ e = e ρ refl
  sum_at s (t ∷ ts) out F G ρ e =
      fold_cong o.zero o.sum (range_with_len 0 k) _ _
      (λ a. sum_at s ts (λ i. out (inr i)) F G (update ρ t a) (λ σ q. e σ (q ∙ update_other ρ t a s (λ p. out (inl p)))))

module _ {V : Type 0} (o : Ops V) (l : Laws o) where
  pub absorbs_right : (x : V) → o.product x o.zero ≡ o.zero
  absorbs_right x = l.products.comm x o.zero ∙ l.absorbs x

  pub spread : {X : Type 0} (x : V) (xs : List X) (f : X → V) → fold o.zero o.sum xs (λ y. o.product x (f y)) ≡ o.product x (fold o.zero o.sum xs f)
  spread x [] f = sym (absorbs_right x)
  spread x (y ∷ ys) f =
      ap (o.sum (o.product x (f y))) (spread x ys f) ∙ sym (l.distributes x (f y) (fold o.zero o.sum ys f))

-- a term that depends on the slots of a list alone
abbrev pub Local : {V : Type 0} → List ℕ → ((ℕ → ℕ) → V) → Type 0
Local c f = (s : ℕ) → (In s c → ⊥) → (σ : ℕ → ℕ) (a : ℕ) → f (update σ s a) ≡ f σ

-- lists that share no slot
abbrev pub Disjoint : List (List ℕ) → Type 0
Disjoint [] = Unit {0}
Disjoint (c ∷ cs) = ((s : ℕ) → In s c → In s (flat_map (λ d. d) cs) → ⊥) × Disjoint cs

module _ {V : Type 0} (o : Ops V) (l : Laws o) (k : ℕ) where
  sum_swap : (s t : ℕ) (ss : List ℕ) (F : (ℕ → ℕ) → V) (ρ : ℕ → ℕ) → sum_slots o k (s ∷ (t ∷ ss)) F ρ ≡ sum_slots o k (t ∷ (s ∷ ss)) F ρ
  sum_swap s t ss F ρ =
      elim (cases_eq s t) [
        | inl e ↦ ap₂ (λ a b. sum_slots o k (a ∷ (b ∷ ss)) F ρ) e (sym e)
        | inr ne ↦ fold_swap l.sums (range_with_len 0 k) (range_with_len 0 k) (λ a b. sum_slots o k ss F (update (update ρ s a) t b))
            ∙ fold_cong o.zero o.sum (range_with_len 0 k) _ _
            (λ b. fold_cong o.zero o.sum (range_with_len 0 k) _ _ (λ a. ap (sum_slots o k ss F) (update_comm ρ s t a b ne)))
      ]

  pub sum_perm : {ss ts : List ℕ} → Perm ss ts → (F : (ℕ → ℕ) → V) (ρ : ℕ → ℕ) → sum_slots o k ss F ρ ≡ sum_slots o k ts F ρ
  sum_perm done F ρ = refl
  sum_perm (keep {x} p) F ρ = fold_cong o.zero o.sum (range_with_len 0 k) _ _ (λ a. sum_perm p F (update ρ x a))
  sum_perm (swap {x} {y} {xs}) F ρ = sum_swap x y xs F ρ
  sum_perm (next p q) F ρ = sum_perm p F ρ ∙ sum_perm q F ρ

  -- a factor that does not depend on the slots listed comes out of the sum
  pub sum_pull : (ss : List ℕ) (f g : (ℕ → ℕ) → V) → ((s : ℕ) → In s ss → (σ : ℕ → ℕ) (a : ℕ) → f (update σ s a) ≡ f σ) → (ρ : ℕ → ℕ) → sum_slots o k ss (λ σ. o.product (f σ) (g σ)) ρ ≡ o.product (f ρ) (sum_slots o k ss g ρ)
  sum_pull [] f g out ρ = refl
  sum_pull (s ∷ ss) f g out ρ =
      fold_cong o.zero o.sum (range_with_len 0 k) _ _
      (λ a. sum_pull ss f g (λ t i. out t (inr i)) (update ρ s a) ∙ ap (λ x. o.product x (sum_slots o k ss g (update ρ s a))) (out s (inl refl) ρ a))
      ∙ spread o l (f ρ) (range_with_len 0 k) (λ a. sum_slots o k ss g (update ρ s a))

  -- the sum of a product of two terms that depend on other slots is the product of their sums
  pub sum_factor : (ss ts : List ℕ) (f g : (ℕ → ℕ) → V) → ((s : ℕ) → In s ts → (σ : ℕ → ℕ) (a : ℕ) → f (update σ s a) ≡ f σ) → ((s : ℕ) → In s ss → (σ : ℕ → ℕ) (a : ℕ) → g (update σ s a) ≡ g σ) → (ρ : ℕ → ℕ) → sum_slots o k (ss ++ ts) (λ σ. o.product (f σ) (g σ)) ρ ≡ o.product (sum_slots o k ss f ρ) (sum_slots o k ts g ρ)
  sum_factor ss ts f g out-f out-g ρ =
      sum_append o k ss ts (λ σ. o.product (f σ) (g σ)) ρ
      ∙ sum_cong o k ss _ _ ρ (λ σ. sum_pull ts f g out-f σ ∙ l.products.comm (f σ) (sum_slots o k ts g σ))
      ∙ sum_pull ss (sum_slots o k ts g) f (λ s i σ a. sum_ignores o k s ts g (out-g s i) σ a) ρ
      ∙ l.products.comm (sum_slots o k ts g ρ) (sum_slots o k ss f ρ)

  pub sum_factors : (cs : List (List ℕ)) (t : List ℕ → (ℕ → ℕ) → V) → ((c : List ℕ) → In c cs → Local c (t c)) → Disjoint cs → (ρ : ℕ → ℕ) → sum_slots o k (flat_map (λ c. c) cs) (λ σ. fold o.one o.product cs (λ c. t c σ)) ρ ≡ fold o.one o.product cs (λ c. sum_slots o k c (t c) ρ)
  sum_factors [] t local d ρ = refl
  sum_factors (c ∷ cs) t local d ρ =
      sum_factor c (flat_map (λ e. e) cs) (t c) (λ σ. fold o.one o.product cs (λ e. t e σ)) (λ s i. local c (inl refl) s (λ j. d.0 s j i))
      (λ s i σ a. fold_cong_in o.one o.product cs _ _ (λ e j. local e (inr j) s (λ m. d.0 s i (in_joined (λ x. x) e s cs j m)) σ a)) ρ
      ∙ ap (o.product (sum_slots o k c (t c) ρ)) (sum_factors cs t (λ e j. local e (inr j)) d.1 ρ)
