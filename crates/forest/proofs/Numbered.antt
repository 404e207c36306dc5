-- How many slots below a number are their own names, counted along their parents.
-- Assumes nothing.
use Rattle.std.proofs.Common.{◌≡◌, ℕ, zero, suc, ◌+◌, ◌-◌, ◌<◌, ◌≤◌, min, Bool, true, false, cond, not, eqb, ◌⊎◌, List, [], ◌∷◌, length, get_or, take, sym, refl, ap, ◌∙◌, inl, inr, zero-add, subst, arith}
use Rattle.std.specs.List.{range_with_len, enumerate_from, filter}
use Rattle.std.proofs.Math.Seq.{take-nil}
use Rattle.std.proofs.lemmas.List.{length-take, take_all}
use Rattle.std.proofs.lemmas.List.FromFn.{length-enumerate_from, get_or-enumerate_from}
use Rattle.std.proofs.lemmas.List.Filters.{length-filter_both, length-filter_more}
use Rattle.std.proofs.lemmas.Bool.{cases_eq, eq-eqb, ne_eqb}
use Rattle.figures.specs.Lists.{every, kept}
use Rattle.figures.proofs.Names.{name}
use Rattle.figures.proofs.Settled.{names}
use Rattle.forest.specs.Entries.{in_range}
use Rattle.forest.specs.Hanging.{parents}
use Rattle.forest.proofs.Hung.{length_parents, root_named, named_root}

-- a slot with its parent: it is its own
abbrev pub own : ℕ × ℕ → Bool
own p = eqb p.0 p.1

length_cond : {X : Type 0} (b : Bool) (x : X) (xs : List X) → length (cond b (x ∷ xs) xs) ≡ length xs + cond b 1 0
length_cond true x xs = omega arith
length_cond false x xs = omega arith

-- of n slots from a on, those that are their own parents, and those past the last parent
counted : (q : ℕ → Bool) (a n : ℕ) (ps : List ℕ) → ((k : ℕ) → q (a + k) ≡ own (a + k, get_or ps k (a + k))) → length (kept q (range_with_len a n)) ≡ n - min n (length ps) + length (filter own (enumerate_from a (take n ps)))
counted q a zero ps same = omega arith
counted q a (suc n) [] same =
    let here : q a ≡ true = ap q (omega arith) ∙ same 0 ∙ eq-eqb (a + 0) (a + 0) refl in
    let rest = counted q (a + 1) n [] (λ k. let e : a + 1 + k ≡ a + suc k = omega arith in ap q e ∙ same (suc k) ∙ ap (λ s. own (s, s)) (sym e)) in
    omega (arith, length_cond (q a) a (kept q (range_with_len (a + 1) n)), ap (λ b. cond {A = ℕ} b 1 0) here, ap (λ xs. length (filter own (enumerate_from (a + 1) xs))) (take-nil n))
counted q a (suc n) (p ∷ ps) same =
    let e : a ≡ a + 0 = omega arith in
    let here : q a ≡ own (a, p) = ap q e ∙ same 0 ∙ ap (λ s. own (s, p)) (sym e) in
    let rest = counted q (a + 1) n ps (λ k. let e : a + 1 + k ≡ a + suc k = omega arith in ap q e ∙ same (suc k) ∙ ap (λ s. own (s, get_or ps k s)) (sym e)) in
    omega (arith, length_cond (q a) a (kept q (range_with_len (a + 1) n)), length_cond (own (a, p)) (a, p) (filter own (enumerate_from (a + 1) (take n ps))), ap (λ b. cond {A = ℕ} b 1 0) here)

-- the slots below n: a slot is its own name exactly if it is its own parent
pub names_counted : (ls : List (ℕ × ℕ)) → every in_range ls ≡ true → (n : ℕ) → length (names n ls) ≡ n - min n 64 + length (filter own (enumerate_from 0 (take n (parents ls))))
names_counted ls range n =
    omega (arith, length_parents ls, counted (λ s. eqb (name ls s) s) 0 n (parents ls) (λ s. let e = zero-add s in subst (λ t. eqb (name ls t) t ≡ own (t, get_or (parents ls) s t)) (sym e) (go s (cases_eq (get_or (parents ls) s s) s))))
  where
    go : (s : ℕ) → (get_or (parents ls) s s ≡ s) ⊎ (get_or (parents ls) s s ≡ s → ⊥) → eqb (name ls s) s ≡ own (s, get_or (parents ls) s s)
    go s (inl e) = eq-eqb _ _ (root_named ls s range e) ∙ sym (eq-eqb _ _ (sym e))
    go s (inr e) = ne_eqb _ _ (λ h. e (named_root ls s range h)) ∙ sym (ne_eqb _ _ (λ h. e (sym h)))

-- how many of the first i slots are their own parents
abbrev pub owns : List ℕ → ℕ → ℕ
owns ps i = length (filter own (take i (enumerate_from 0 ps)))

module _ (ps : List ℕ) (i : ℕ) where
  pub owns_few : owns ps i ≤ i
  owns_few =
      omega (arith, length-filter_both own (λ p. not (own p)) (λ p. refl) (take i (enumerate_from 0 ps)), length-take i (enumerate_from 0 ps))

  pub owns_all : length ps ≤ i → owns ps i ≡ length (filter own (enumerate_from 0 ps))
  owns_all h = ap (λ xs. length (filter own xs)) (take_all i (enumerate_from 0 ps) (omega (arith, length-enumerate_from 0 ps)))

  module _ (within : i < length ps) where
    more : (b : Bool) → eqb (0 + i) (get_or ps i 0) ≡ b → owns ps (i + 1) ≡ owns ps i + cond b 1 0
    more b e =
        length-filter_more own (enumerate_from 0 ps) i (0, 0) (omega (arith, length-enumerate_from 0 ps))
        ∙ ap (λ p. owns ps i + cond (own p) 1 0) (get_or-enumerate_from 0 ps i (0, 0) within)
        ∙ ap (λ b. owns ps i + cond b 1 0) e

    -- one slot more, a root
    pub owns_root : get_or ps i 0 ≡ i → owns ps (i + 1) ≡ owns ps i + 1
    owns_root e = more true (eq-eqb (0 + i) (get_or ps i 0) (omega (arith, e)))

    -- one slot more, no root
    pub owns_other : (get_or ps i 0 ≡ i → ⊥) → owns ps (i + 1) ≡ owns ps i
    owns_other ne = omega (arith, more false (ne_eqb (0 + i) (get_or ps i 0) (λ e. ne (omega (arith, e)))))
