-- What a list of slots has after slots are pushed.
-- Assumes nothing.
use Rattle.std.proofs.Common.{◌≡◌, ℕ, ◌+◌, ◌<◌, Bool, true, false, ◌||◌, eqb, ◌⊎◌, List, [], ◌∷◌, ◌++◌, length, get_or, set, take, sym, ap, ◌∙◌, inl, inr, arith}
use Rattle.std.proofs.Math.Bool.{or-false, or-true, or_assoc}
use Rattle.std.proofs.lemmas.List.{take_more, get_or-set_same, get_or-set_other}
use Rattle.std.proofs.lemmas.Bool.{cases_eq, cases_Bool, eq-eqb, ne_eqb}
use Rattle.figures.specs.Graph.{has}
use Rattle.sums.specs.Ordered.{Marked, lawful, pushed}
use Rattle.sums.proofs.Lawful.{lawful_below, pushed_new, pushed_old}
use Rattle.sums.proofs.Reaching.{at_place}

has_push : (ss : List ℕ) (s t : ℕ) → has (ss ++ s ∷ []) t ≡ (has ss t || eqb t s)
has_push [] s t = or-false (eqb t s)
has_push (x ∷ ss) s t = ap (λ b. eqb t x || b) (has_push ss s t) ∙ sym (or_assoc (eqb t x) (has ss t) (eqb t s))

-- a slot pushed is marked
pub marked_push : (marks : List Bool) (ss : List ℕ) (s : ℕ) → length marks ≡ 64 → s < 64 → Marked marks ss → Marked (set marks s true) (ss ++ s ∷ [])
marked_push marks ss s e small m t = go (cases_eq t s)
  where
    go : (t ≡ s) ⊎ (t ≡ s → ⊥) → get_or (set marks s true) t false ≡ has (ss ++ s ∷ []) t
    go (inl q) =
        ap (λ u. get_or (set marks s true) u false) q ∙ get_or-set_same marks s true false (omega arith)
        ∙ sym (has_push ss s t ∙ ap (λ b. has ss t || b) (eq-eqb t s q) ∙ or-true (has ss t))
    go (inr ne) =
        get_or-set_other marks s t true false ne ∙ m t
        ∙ sym (has_push ss s t ∙ ap (λ b. has ss t || b) (ne_eqb t s ne) ∙ or-false (has ss t))

-- one slot pushed
has_pushed : (ss : List ℕ) (s t : ℕ) → s < 64 → has (pushed ss s) t ≡ (has ss t || eqb t s)
has_pushed ss s t small = go (cases_Bool (has ss s))
  where
    old : has ss s ≡ true → (t ≡ s) ⊎ (t ≡ s → ⊥) → has ss t ≡ (has ss t || eqb t s)
    old e (inl q) = let there = ap (has ss) q ∙ e in there ∙ sym (ap (λ b. b || eqb t s) there)
    old e (inr ne) = sym (ap (λ b. has ss t || b) (ne_eqb t s ne) ∙ or-false (has ss t))

    go : (has ss s ≡ true) ⊎ (has ss s ≡ false) → has (pushed ss s) t ≡ (has ss t || eqb t s)
    go (inl e) = ap (λ xs. has xs t) (sym (pushed_old ss s e)) ∙ old e (cases_eq t s)
    go (inr e) = ap (λ xs. has xs t) (sym (pushed_new ss s small e)) ∙ has_push ss s t

-- the slots of a list pushed up to a place, and one more
pub has_pushed_more : (old ss xs : List ℕ) (i t : ℕ) → lawful xs ≡ true → i < length xs → has ss t ≡ (has old t || has (take i xs) t) → has (pushed ss (get_or xs i 0)) t ≡ (has old t || has (take (i + 1) xs) t)
has_pushed_more old ss xs i t law l e =
    has_pushed ss (get_or xs i 0) t (lawful_below xs law (get_or xs i 0) (at_place 0 xs i l)) ∙ ap (λ b. b || eqb t (get_or xs i 0)) e ∙ or_assoc (has old t) (has (take i xs) t) (eqb t (get_or xs i 0))
    ∙ sym (ap (λ ys. has old t || has ys t) (take_more xs i 0 l) ∙ ap (λ b. has old t || b) (has_push (take i xs) (get_or xs i 0) t))
