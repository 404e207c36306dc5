-- Gathering along links finds exactly the slots that a chain joins.
-- Assumes nothing.
use Rattle.std.proofs.Common.{◌≡◌, ℕ, zero, suc, ◌+◌, ◌<◌, ◌≤◌, Bool, true, false, cond, not, ◌&&◌, eqb, ltb, ◌⊎◌, List, [], ◌∷◌, ◌++◌, map, length, get_or, sym, refl, ap, ◌∙◌, subst, inl, inr, append_assoc, arith}
use Rattle.std.specs.List.{range_with_len}
use Rattle.std.proofs.lemmas.List.FromFn.{map-range_with_len_more}
use Rattle.std.proofs.lemmas.List.{append-nil, get_or_append_left, map-append}
use Rattle.std.proofs.lemmas.List.Sums.{fold_push}
use Rattle.std.proofs.lemmas.Bool.{cases_Bool, cases_eq, and_from, not_from_false, eqb-true, eq-eqb, lt-ltb, cond-true}
use Rattle.figures.specs.Lists.{kept, In}
use Rattle.figures.specs.Locus.{Reading, loud}
use Rattle.figures.specs.Graph.{Chain, same, link, back, join, Component, links, has}
use Rattle.figures.proofs.Members.{in_left, in_right, in_append, has_in}
use Rattle.sums.specs.Ordered.{lawful, pushed}
use Rattle.sums.specs.Gathering.{follow, reached}
use Rattle.sums.proofs.Lawful.{lawful_once}

-- the links of one person more
kept_append : {X : Type 0} (p : X → Bool) (xs ys : List X) → kept p (xs ++ ys) ≡ kept p xs ++ kept p ys
kept_append p [] ys = refl
kept_append p (x ∷ xs) ys = go (p x) (kept_append p xs ys)
  where
    go : (b : Bool) → kept p (xs ++ ys) ≡ kept p xs ++ kept p ys → cond b (x ∷ kept p (xs ++ ys)) (kept p (xs ++ ys)) ≡ cond b (x ∷ kept p xs) (kept p xs) ++ kept p ys
    go true e = ap (λ zs. x ∷ zs) e
    go false e = e

module _ (f : ℕ → Reading) (i : ℕ) where
  split : links (map f (range_with_len 0 (i + 1))) ≡ links (map f (range_with_len 0 i)) ++ links (f i ∷ [])
  split =
      ap links (map-range_with_len_more f 0 i i (omega arith))
      ∙ ap (map (λ r. r.ends)) (kept_append (λ r. loud r.class) (map f (range_with_len 0 i)) (f i ∷ []))
      ∙ map-append (λ r. r.ends) (kept (λ r. loud r.class) (map f (range_with_len 0 i))) (kept (λ r. loud r.class) (f i ∷ []))

  pub links_loud : loud (f i).class ≡ true → links (map f (range_with_len 0 (i + 1))) ≡ links (map f (range_with_len 0 i)) ++ (f i).ends ∷ []
  links_loud e = split ∙ ap (λ b. links (map f (range_with_len 0 i)) ++ map (λ r. r.ends) (cond b (f i ∷ []) [])) e

  pub links_silent : loud (f i).class ≡ false → links (map f (range_with_len 0 (i + 1))) ≡ links (map f (range_with_len 0 i))
  links_silent e =
      split ∙ ap (λ b. links (map f (range_with_len 0 i)) ++ map (λ r. r.ends) (cond b (f i ∷ []) [])) e ∙ append-nil (links (map f (range_with_len 0 i)))

  pub reached_loud : (s : ℕ) (ss : List ℕ) → loud (f i).class ≡ true → follow s (reached (links (map f (range_with_len 0 i))) s ss) (f i).ends ≡ reached (links (map f (range_with_len 0 (i + 1)))) s ss
  reached_loud s ss e =
      sym (fold_push (follow s) ss (links (map f (range_with_len 0 i))) (f i).ends) ∙ ap (λ ls. reached ls s ss) (sym (links_loud e))

-- what one push does
grows : (ss : List ℕ) (s : ℕ) → (ext : List ℕ) × (pushed ss s ≡ ss ++ ext)
grows ss s = go (ltb s 64 && not (has ss s))
  where
    go : (b : Bool) → (ext : List ℕ) × (cond b (ss ++ s ∷ []) ss ≡ ss ++ ext)
    go true = (s ∷ [], refl)
    go false = ([], sym (append-nil ss))

push_in : (ss : List ℕ) (s t : ℕ) → In t (pushed ss s) → In t ss ⊎ (t ≡ s)
push_in ss s t i = go (ltb s 64 && not (has ss s)) i
  where
    one : In t ss ⊎ In t (s ∷ []) → In t ss ⊎ (t ≡ s)
    one (inl j) = inl j
    one (inr (inl e)) = inr e
    one (inr (inr j)) = elim j [ ]

    go : (b : Bool) → In t (cond b (ss ++ s ∷ []) ss) → In t ss ⊎ (t ≡ s)
    go true j = one (in_append t ss (s ∷ []) j)
    go false j = inl j

pub push_there : (ss : List ℕ) (s : ℕ) → s < 64 → In s (pushed ss s)
push_there ss s small = go (cases_Bool (has ss s))
  where
    go : (has ss s ≡ true) ⊎ (has ss s ≡ false) → In s (pushed ss s)
    go (inl e) = let g = grows ss s in subst (In s) (sym g.1) (in_left s ss g.0 (has_in ss s e))
    go (inr e) =
        subst (In s) (sym (cond-true (ltb s 64 && not (has ss s)) (ss ++ s ∷ []) ss (and_from (ltb s 64) (not (has ss s)) (lt-ltb s 64 small) (not_from_false (has ss s) e)))) (in_right s ss (s ∷ []) (inl refl))

-- the link joins s and t
Other : ℕ → ℕ → ℕ × ℕ → Type 0
Other s t l = ((s, t) ≡ l) ⊎ ((t, s) ≡ l)

is_pair : (a b : ℕ) (l : ℕ × ℕ) → l.0 ≡ a → l.1 ≡ b → (a, b) ≡ l
is_pair a b l p q = sym (λ i. (p i, q i))

-- what one link does
first : ℕ → List ℕ → ℕ × ℕ → List ℕ
first s ss l = cond (eqb l.0 s) (pushed ss l.1) ss

cond_grows : (b : Bool) (ss zs : List ℕ) (s : ℕ) → (ext : List ℕ) × (ss ≡ zs ++ ext) → (ext : List ℕ) × (cond b (pushed ss s) ss ≡ zs ++ ext)
cond_grows true ss zs s p =
    let g = grows ss s in (p.0 ++ g.0, g.1 ∙ ap (λ xs. xs ++ g.0) p.1 ∙ append_assoc zs p.0 g.0)
cond_grows false ss zs s p = p

follow_grows : (s : ℕ) (ss : List ℕ) (l : ℕ × ℕ) → (ext : List ℕ) × (follow s ss l ≡ ss ++ ext)
unfolding first
follow_grows s ss l =
    cond_grows (eqb l.1 s) (first s ss l) ss l.0 (cond_grows (eqb l.0 s) ss ss l.1 ([], sym (append-nil ss)))

follow_in : (s : ℕ) (ss : List ℕ) (l : ℕ × ℕ) (t : ℕ) → In t (follow s ss l) → In t ss ⊎ Other s t l
unfolding first Other
follow_in s ss l t i = second (eqb l.1 s) refl i
  where
    fst : (b : Bool) → eqb l.0 s ≡ b → In t (cond b (pushed ss l.1) ss) → In t ss ⊎ (((s, t) ≡ l) ⊎ ((t, s) ≡ l))
    fst true e j = go (push_in ss l.1 t j)
      where
        go : In t ss ⊎ (t ≡ l.1) → In t ss ⊎ (((s, t) ≡ l) ⊎ ((t, s) ≡ l))
        go (inl k) = inl k
        go (inr q) = inr (inl (is_pair s t l (eqb-true l.0 s e) (sym q)))
    fst false e j = inl j

    second : (b : Bool) → eqb l.1 s ≡ b → In t (cond b (pushed (first s ss l) l.0) (first s ss l)) → In t ss ⊎ (((s, t) ≡ l) ⊎ ((t, s) ≡ l))
    second true e j = go (push_in (first s ss l) l.0 t j)
      where
        go : In t (first s ss l) ⊎ (t ≡ l.0) → In t ss ⊎ (((s, t) ≡ l) ⊎ ((t, s) ≡ l))
        go (inl k) = fst (eqb l.0 s) refl k
        go (inr q) = inr (inr (is_pair t s l (sym q) (eqb-true l.1 s e)))
    second false e j = fst (eqb l.0 s) refl j

follow_there : (s : ℕ) (ss : List ℕ) (l : ℕ × ℕ) (t : ℕ) → l.0 < 64 → l.1 < 64 → Other s t l → In t (follow s ss l)
unfolding first Other
follow_there s ss l t small small' (inl p) =
    let there : In t (first s ss l) = subst (In t) (sym (cond-true (eqb l.0 s) (pushed ss l.1) ss (eq-eqb l.0 s (sym (ap (λ q. q.0) p))))) (subst (λ u. In u (pushed ss l.1)) (sym (ap (λ q. q.1) p)) (push_there ss l.1 small')) in
    let g = cond_grows (eqb l.1 s) (first s ss l) (first s ss l) l.0 ([], sym (append-nil (first s ss l))) in
    subst (In t) (sym g.1) (in_left t (first s ss l) g.0 there)
follow_there s ss l t small small' (inr p) =
    subst (In t) (sym (cond-true (eqb l.1 s) (pushed (first s ss l) l.0) (first s ss l) (eq-eqb l.1 s (sym (ap (λ q. q.1) p))))) (subst (λ u. In u (pushed (first s ss l) l.0)) (sym (ap (λ q. q.0) p)) (push_there (first s ss l) l.0 small))

-- what all links do
pub reached_grows : (ls : List (ℕ × ℕ)) (s : ℕ) (ss : List ℕ) → (ext : List ℕ) × (reached ls s ss ≡ ss ++ ext)
reached_grows [] s ss = ([], sym (append-nil ss))
reached_grows (l ∷ ls) s ss =
    let g = follow_grows s ss l in
    let h = reached_grows ls s (follow s ss l) in
    (g.0 ++ h.0, h.1 ∙ ap (λ xs. xs ++ h.0) g.1 ∙ append_assoc ss g.0 h.0)

-- a link joins the two
abbrev pub Joined : List (ℕ × ℕ) → ℕ → ℕ → Type 0
Joined ls s t = In (s, t) ls ⊎ In (t, s) ls

pub reached_in : (ls : List (ℕ × ℕ)) (s : ℕ) (ss : List ℕ) (t : ℕ) → In t (reached ls s ss) → In t ss ⊎ Joined ls s t
unfolding Other
reached_in [] s ss t i = inl i
reached_in (l ∷ ls) s ss t i = go (reached_in ls s (follow s ss l) t i)
  where
    one : In t ss ⊎ (((s, t) ≡ l) ⊎ ((t, s) ≡ l)) → In t ss ⊎ Joined (l ∷ ls) s t
    one (inl j) = inl j
    one (inr (inl p)) = inr (inl (inl p))
    one (inr (inr p)) = inr (inr (inl p))

    go : In t (follow s ss l) ⊎ Joined ls s t → In t ss ⊎ Joined (l ∷ ls) s t
    go (inl j) = one (follow_in s ss l t j)
    go (inr (inl j)) = inr (inl (inr j))
    go (inr (inr j)) = inr (inr (inr j))

pub reached_there : (ls : List (ℕ × ℕ)) → ((a b : ℕ) → In (a, b) ls → (a < 64) × (b < 64)) → (s : ℕ) (ss : List ℕ) (t : ℕ) → Joined ls s t → In t (reached ls s ss)
unfolding Other
reached_there [] small s ss t (inl j) = elim j [ ]
reached_there [] small s ss t (inr j) = elim j [ ]
reached_there (l ∷ ls) small s ss t j = go (reached_there ls (λ a b i. small a b (inr i)) s (follow s ss l) t) j
  where
    now_there : Other s t l → In t (reached ls s (follow s ss l))
    now_there p =
        let b = small l.0 l.1 (inl refl) in
        let g = reached_grows ls s (follow s ss l) in
        subst (In t) (sym g.1) (in_left t (follow s ss l) g.0 (follow_there s ss l t b.0 b.1 p))

    go : (Joined ls s t → In t (reached ls s (follow s ss l))) → Joined (l ∷ ls) s t → In t (reached ls s (follow s ss l))
    go ih (inl (inl p)) = now_there (inl p)
    go ih (inl (inr i)) = ih (inl i)
    go ih (inr (inl p)) = now_there (inr p)
    go ih (inr (inr i)) = ih (inr i)

-- where an element stands
place_of : {X : Type 0} (x d : X) (xs : List X) → In x xs → (j : ℕ) × (j < length xs) × (get_or xs j d ≡ x)
place_of x d [] i = elim i [ ]
place_of x d (y ∷ xs) (inl e) = (0, omega arith, sym e)
place_of x d (y ∷ xs) (inr i) = let r = place_of x d xs i in (suc r.0, omega arith, r.2)

pub at_place : {X : Type 0} (d : X) (xs : List X) (j : ℕ) → j < length xs → In (get_or xs j d) xs
at_place d [] j h = absurd (omega arith)
at_place d (x ∷ xs) zero h = inl refl
at_place d (x ∷ xs) (suc j) h = inr (at_place d xs j (omega arith))

-- the slots gathered so far: all chained to the first, and those before `next` followed
pub record Gathers (n : ℕ) (ls : List (ℕ × ℕ)) (slot : ℕ) (ss : List ℕ) (next : ℕ) : Type 0 where
  pub there : In slot ss
  pub inside : (t : ℕ) → In t ss → (t < n) × Chain ls slot t
  pub followed : (j t : ℕ) → j < next → Joined ls (get_or ss j 0) t → In t ss

module _ {n : ℕ} {ls : List (ℕ × ℕ)} (within : (a b : ℕ) → In (a, b) ls → (a < n) × (b < n)) (few : n ≤ 64) {slot : ℕ} where
  pub gathers_first : {ss : List ℕ} → ss ≡ pushed [] slot → slot < n → Gathers n ls slot ss 0
  gathers_first is h = subst (λ ss. Gathers n ls slot ss 0) (sym is) (record {
    there = push_there [] slot (omega arith);
    inside = λ t i. start t (push_in [] slot t i);
    followed = λ j t l. absurd (omega arith);
  })
    where
      start : (t : ℕ) → In t [] ⊎ (t ≡ slot) → (t < n) × Chain ls slot t
      start t (inl i) = elim i [ ]
      start t (inr e) = (omega arith, subst (Chain ls slot) (sym e) same)

  pub gathers_more : {ss more : List ℕ} {next : ℕ} → next < length ss → more ≡ reached ls (get_or ss next 0) ss → Gathers n ls slot ss next → Gathers n ls slot more (next + 1)
  gathers_more {ss} {more} {next} h is g = subst (λ xs. Gathers n ls slot xs (next + 1)) (sym is) (record {
    there = grown slot g.there;
    inside = λ t i. found t (reached_in ls s ss t i);
    followed = λ j t l q. follow_at j t (cases_eq j next) l q;
  })
    where
      s : ℕ
      s = get_or ss next 0

      ext : (ext : List ℕ) × (reached ls s ss ≡ ss ++ ext)
      ext = reached_grows ls s ss

      grown : (t : ℕ) → In t ss → In t (reached ls s ss)
      grown t i = subst (In t) (sym ext.1) (in_left t ss ext.0 i)

      step : (t : ℕ) → Joined ls s t → (t < n) × Chain ls s t
      step t (inl i) = ((within s t i).1, link i)
      step t (inr i) = ((within t s i).0, back (link i))

      found : (t : ℕ) → In t ss ⊎ Joined ls s t → (t < n) × Chain ls slot t
      found t (inl i) = g.inside t i
      found t (inr q) = ((step t q).0, join (g.inside s (at_place 0 ss next h)).1 (step t q).1)

      same_place : (j : ℕ) → j < length ss → get_or (reached ls s ss) j 0 ≡ get_or ss j 0
      same_place j l = ap (λ xs. get_or xs j 0) ext.1 ∙ get_or_append_left ss ext.0 0 j l

      follow_at : (j t : ℕ) → (j ≡ next) ⊎ (j ≡ next → ⊥) → j < next + 1 → Joined ls (get_or (reached ls s ss) j 0) t → In t (reached ls s ss)
      follow_at j t (inl e) l q =
          reached_there ls (λ a b i. (omega (arith, (within a b i).0), omega (arith, (within a b i).1))) s ss t
          (subst (λ u. Joined ls u t) (same_place j (omega arith) ∙ ap (λ u. get_or ss u 0) e) q)
      follow_at j t (inr ne) l q = grown t (g.followed j t (omega arith) (subst (λ u. Joined ls u t) (same_place j (omega arith)) q))

  pub gathers_all : {ss : List ℕ} {next : ℕ} → length ss ≤ next → lawful ss ≡ true → Gathers n ls slot ss next → Component n ls slot ss
  gathers_all {ss} {next} h law g = record {
    once = lawful_once ss law;
    exactly = λ t. (g.inside t, λ q. (closed q.1).0 g.there);
  }
    where
      along : (a b : ℕ) → Joined ls a b → In a ss → In b ss
      along a b q i =
          let r = place_of a 0 ss i in
          g.followed r.0 b (omega (arith, r.1)) (subst (λ u. Joined ls u b) (sym r.2) q)

      closed : {s t : ℕ} → Chain ls s t → (In s ss → In t ss) × (In t ss → In s ss)
      closed same = ((λ i. i), λ i. i)
      closed {s} {t} (link i) = (along s t (inl i), along t s (inr i))
      closed (back c) = let h = closed c in (h.1, h.0)
      closed (join c d) = let h = closed c in let k = closed d in ((λ i. k.0 (h.0 i)), λ i. h.1 (k.1 i))
