-- The parents that links give: going to the parent keeps the name, and a root is its own name.
-- Assumes nothing.
use Rattle.std.proofs.Common.{◌≡◌, ℕ, ◌<◌, ◌≤◌, min, max, true, eqb, ltb, ◌⊎◌, List, [], ◌∷◌, length, get_or, set, sym, refl, ap, ◌∙◌, subst, subst₂, inl, inr, arith}
use Rattle.std.specs.List.{range_with_len}
use Rattle.std.proofs.lemmas.List.{get_or-set_same, get_or-set_other, get_or_past, length-set, set-set, set-get_or, map-id}
use Rattle.std.proofs.lemmas.List.FromFn.{length-range_with_len, get_or-range_with_len, fill_by_all}
use Rattle.std.proofs.lemmas.Bool.{cases_eq, cases_lt, cases_cond, and_parts, ltb-true, ne_eqb, cond-false}
use Rattle.figures.specs.Lists.{every}
use Rattle.figures.specs.Graph.{Chain, same, link, back, join}
use Rattle.figures.proofs.Names.{name, name_le, name_chain, chain_name, name_own, more_links}
use Rattle.forest.specs.Entries.{in_range}
use Rattle.forest.specs.Hanging.{parents, hung_by}

pub length_parents : (ls : List (ℕ × ℕ)) → length (parents ls) ≡ 64
unfolding parents
length_parents [] = length-range_with_len 0 64
length_parents (l ∷ ls) = length-set (parents ls) (max (name ls l.0) (name ls l.1)) (min (name ls l.0) (name ls l.1)) ∙ length_parents ls

-- at first every slot is its own parent
first_parent : (s : ℕ) → get_or (parents []) s s ≡ s
unfolding parents
first_parent s = go (cases_lt s 64)
  where
    go : (s < 64) ⊎ (64 ≤ s) → get_or (range_with_len 0 64) s s ≡ s
    go (inl h) = get_or-range_with_len 0 64 s s h ∙ omega arith
    go (inr h) = get_or_past (range_with_len 0 64) s s h

pub parents_first : (ps : List ℕ) (n : ℕ) → length ps ≡ 64 → 64 ≤ n → ((k : ℕ) → k < n → get_or ps k 0 ≡ k) → ps ≡ parents []
unfolding parents
parents_first ps n long all own = fill_by_all (λ k. k) ps 64 0 long (λ k h. own k (omega arith)) ∙ map-id (range_with_len 0 64)

-- the newest link, over the links before it
module _ (l : ℕ × ℕ) (ls : List (ℕ × ℕ)) where
  abbrev low : ℕ
  low = min (name ls l.0) (name ls l.1)

  rest_in_range : every in_range (l ∷ ls) ≡ true → every in_range ls ≡ true
  rest_in_range range = (and_parts (in_range l) (every in_range ls) range).1

  pub hung_by_below : every in_range (l ∷ ls) ≡ true → hung_by ls l < 64
  hung_by_below range =
      let here = and_parts (ltb l.0 64) (ltb l.1 64) (and_parts (in_range l) (every in_range ls) range).0 in
      omega (arith, ltb-true l.0 64 here.0, ltb-true l.1 64 here.1, name_le ls l.0, name_le ls l.1)

  hung_by_own : name ls (hung_by ls l) ≡ hung_by ls l
  hung_by_own =
      elim (cases_lt (name ls l.0) (name ls l.1)) [
        | inl h ↦ let e : hung_by ls l ≡ name ls l.1 = omega arith in ap (name ls) e ∙ name_own ls l.1 ∙ sym e
        | inr h ↦ let e : hung_by ls l ≡ name ls l.0 = omega arith in ap (name ls) e ∙ name_own ls l.0 ∙ sym e
      ]

  -- it joins the higher of its two roots to the lower
  high_low : Chain (l ∷ ls) (hung_by ls l) low
  high_low =
      let between : Chain (l ∷ ls) (name ls l.0) (name ls l.1) = join (back (more_links l (name_chain ls l.0))) (join (link (inl refl)) (more_links l (name_chain ls l.1))) in
      elim (cases_lt (name ls l.0) (name ls l.1)) [
        | inl h ↦ subst₂ (Chain (l ∷ ls)) (omega arith) (omega arith) (back between)
        | inr h ↦ subst₂ (Chain (l ∷ ls)) (omega arith) (omega arith) between
      ]

  -- its higher root has a new parent, the parents of all other slots are as before
  parents_cases : (s : ℕ) → every in_range (l ∷ ls) ≡ true → ((s ≡ hung_by ls l) × (get_or (parents (l ∷ ls)) s s ≡ low)) ⊎ ((s ≡ hung_by ls l → ⊥) × (get_or (parents (l ∷ ls)) s s ≡ get_or (parents ls) s s))
  unfolding parents
  parents_cases s range =
      elim (cases_eq s (hung_by ls l)) [
        | inl e ↦ inl (e, ap (λ z. get_or (set (parents ls) (hung_by ls l) low) z s) e ∙ get_or-set_same (parents ls) (hung_by ls l) low s (omega (arith, hung_by_below range, length_parents ls)))
        | inr n ↦ inr (n, get_or-set_other (parents ls) (hung_by ls l) s low s n)
      ]

-- a parent is not above its slot
pub parent_le : (ls : List (ℕ × ℕ)) (s : ℕ) → every in_range ls ≡ true → get_or (parents ls) s s ≤ s
parent_le [] s range = omega (arith, first_parent s)
parent_le (l ∷ ls) s range =
    let h = parent_le ls s (rest_in_range l ls range) in
    elim (parents_cases l ls s range) [ inl p ↦ omega arith | inr p ↦ omega arith ]

-- a chain joins each slot to its parent
parent_chain : (ls : List (ℕ × ℕ)) (s : ℕ) → every in_range ls ≡ true → Chain ls s (get_or (parents ls) s s)
parent_chain [] s range = subst (Chain [] s) (sym (first_parent s)) same
parent_chain (l ∷ ls) s range =
    elim (parents_cases l ls s range) [
      | inl p ↦ subst₂ (Chain (l ∷ ls)) (sym p.0) (sym p.1) (high_low l ls)
      | inr p ↦ subst (Chain (l ∷ ls) s) (sym p.1) (more_links l (parent_chain ls s (rest_in_range l ls range)))
    ]

-- going to the parent keeps the name
pub parent_name : (ls : List (ℕ × ℕ)) (s : ℕ) → every in_range ls ≡ true → name ls (get_or (parents ls) s s) ≡ name ls s
parent_name ls s range = sym (chain_name (parent_chain ls s range))

-- a slot that is its own parent is its own name
pub root_named : (ls : List (ℕ × ℕ)) (s : ℕ) → every in_range ls ≡ true → get_or (parents ls) s s ≡ s → name ls s ≡ s
root_named [] s range e = refl
root_named (l ∷ ls) s range e =
    elim (parents_cases l ls s range) [
      | inl p ↦
          let own : name ls s ≡ s = ap (name ls) p.0 ∙ hung_by_own l ls ∙ sym p.0 in
          let other : low l ls ≡ s = omega (arith, p.1) in
          elim (cases_cond (eqb (name ls s) (hung_by ls l)) (low l ls) (name ls s) (name (l ∷ ls) s) refl) [ inl q ↦ q ∙ other | inr q ↦ q ∙ own ]
      | inr p ↦
          let own = root_named ls s (rest_in_range l ls range) (sym p.1 ∙ e) in
          cond-false (eqb (name ls s) (hung_by ls l)) (low l ls) (name ls s) (ne_eqb (name ls s) (hung_by ls l) (λ q. p.0 (sym own ∙ q))) ∙ own
    ]

-- a slot that is its own name is its own parent
pub named_root : (ls : List (ℕ × ℕ)) (s : ℕ) → every in_range ls ≡ true → name ls s ≡ s → get_or (parents ls) s s ≡ s
named_root ls s range e =
    omega (arith, parent_le ls s range, parent_name ls s range, name_le ls (get_or (parents ls) s s))

-- the root that a link hung, made its own parent again, leaves the parents of the links before
pub parents_back : (l : ℕ × ℕ) (ls : List (ℕ × ℕ)) → every in_range ls ≡ true → set (parents (l ∷ ls)) (hung_by ls l) (hung_by ls l) ≡ parents ls
unfolding parents
parents_back l ls range =
    set-set (parents ls) (hung_by ls l) (low l ls) (hung_by ls l)
    ∙ ap (set (parents ls) (hung_by ls l)) (sym (named_root ls (hung_by ls l) range (hung_by_own l ls)))
    ∙ set-get_or (parents ls) (hung_by ls l) (hung_by ls l)
