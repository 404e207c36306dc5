-- The slots of a locus fall into one number of components: that of the slots which are their own names.
-- Assumes nothing.
use Rattle.std.proofs.Common.{◌≡◌, ℕ, ◌<◌, ◌≤◌, Bool, eqb, List, [], ◌∷◌, ◌++◌, map, length, sym, refl, ap, ◌∙◌, subst, arith}
use Rattle.std.specs.List.{range_with_len, flat_map}
use Rattle.std.proofs.lemmas.Bool.{eqb-true, eq-eqb}
use Rattle.figures.specs.Lists.{kept, In, Once}
use Rattle.figures.specs.Graph.{Chain, Component, Parts, links, back, join}
use Rattle.figures.specs.Statements.{ComponentsStand, PartsSettled}
use Rattle.figures.proofs.Members.{map_in, in_joined, once_joined, in_kept, kept_in, once_kept, in_counting, counting_in, once_counting, no_more}
use Rattle.figures.proofs.Names.{name, name_le, name_chain, name_own, chain_name, same_name_chain}

-- the slots below n that are their own names
abbrev pub names : ℕ → List (ℕ × ℕ) → List ℕ
names n ls = kept (λ s. eqb (name ls s) s) (range_with_len 0 n)

-- the slots below n whose name is the number that is looked for
module _ (n : ℕ) (ls : List (ℕ × ℕ)) (wanted : ℕ → ℕ) where
  abbrev named : ℕ → Bool
  named s = eqb (name ls s) (wanted s)

  in_named : (s : ℕ) → s < n → name ls s ≡ wanted s → In s (kept named (range_with_len 0 n))
  in_named s h e = in_kept named s (range_with_len 0 n) (eq-eqb (name ls s) (wanted s) e) (in_counting 0 n s (omega arith) (omega arith))

  named_in : (s : ℕ) → In s (kept named (range_with_len 0 n)) → (s < n) × (name ls s ≡ wanted s)
  named_in s i =
      let q = kept_in named s (range_with_len 0 n) i in
      let b = counting_in 0 n s q.1 in
      (omega arith, eqb-true (name ls s) (wanted s) q.0)

  once_named : Once (kept named (range_with_len 0 n))
  once_named = once_kept named (range_with_len 0 n) (once_counting 0 n)

own_named : (n : ℕ) (ls : List (ℕ × ℕ)) (s : ℕ) → s < n → In (name ls s) (names n ls)
own_named n ls s h = in_named n ls (λ t. t) (name ls s) (omega (arith, name_le ls s)) (name_own ls s)

pub parts_named : (n : ℕ) (ls : List (ℕ × ℕ)) → Parts n ls (length (names n ls))
parts_named n ls = record {
  ones = names n ls;
  number = refl;
  once = once_named n ls (λ t. t);
  within = λ s i. (named_in n ls (λ t. t) s i).0;
  apart = λ s t i j c. sym (named_in n ls (λ u. u) s i).1 ∙ chain_name c ∙ (named_in n ls (λ u. u) t j).1;
  covered = λ s h. (name ls s, own_named n ls s h, name_chain ls s);
}

-- the slots that have one name
named_so : ℕ → List (ℕ × ℕ) → ℕ → List ℕ
named_so n ls r = kept (λ s. eqb (name ls s) r) (range_with_len 0 n)

joined_map : (f : ℕ → List ℕ) (xs : List ℕ) → flat_map (λ c. c) (map f xs) ≡ flat_map f xs
joined_map f [] = refl
joined_map f (x ∷ xs) = ap (λ ys. f x ++ ys) (joined_map f xs)

pub components_stand : ComponentsStand
unfolding named_so
components_stand L = (map f (names n ls), record { each = each; once = subst Once (sym (joined_map f (names n ls))) once; all = λ s h. subst (In s) (sym (joined_map f (names n ls))) (all s h) })
  where
    n : ℕ
    n = L.slots

    ls : List (ℕ × ℕ)
    ls = links L.readings

    f : ℕ → List ℕ
    f = named_so L.slots (links L.readings)

    f_in : (r s : ℕ) → In s (f r) → (s < n) × (name ls s ≡ r)
    f_in r = named_in n ls (λ _. r)

    component : (r : ℕ) → name ls r ≡ r → Component n ls r (f r)
    component r e = record {
      once = once_named n ls (λ _. r);
      exactly = λ t. ((λ i. ((f_in r t i).0, same_name_chain ls r t (e ∙ sym (f_in r t i).1))), λ q. in_named n ls (λ _. r) t q.0 (sym (chain_name q.1) ∙ e));
    }

    each : (c : List ℕ) → In c (map f (names n ls)) → (s : ℕ) × In s c × Component n ls s c
    each c i =
        let m = map_in f c (names n ls) i in
        let o = named_in n ls (λ t. t) m.0 m.1 in
        (m.0, subst (In m.0) (sym m.2) (in_named n ls (λ _. m.0) m.0 o.0 o.1), subst (Component n ls m.0) (sym m.2) (component m.0 o.1))

    once : Once (flat_map f (names n ls))
    once =
        once_joined f (λ r. once_named n ls (λ _. r)) (λ r q s i j. sym (f_in r s i).1 ∙ (f_in q s j).1) (names n ls) (once_named n ls (λ t. t))

    all : (s : ℕ) → s < n → In s (flat_map f (names n ls))
    all s h = in_joined f (name ls s) s (names n ls) (own_named n ls s h) (in_named n ls (λ _. name ls s) s h refl)

pub parts_le : (n : ℕ) (ls : List (ℕ × ℕ)) (c d : ℕ) → Parts n ls c → Parts n ls d → c ≤ d
parts_le n ls c d p q =
    omega
    (arith, p.number, q.number, no_more (Chain ls) p.ones q.ones (λ s t u i j h k. p.apart s t i j (join h (back k))) p.once (λ s i. q.covered s (p.within s i)))

pub parts_settled : PartsSettled
parts_settled n ls =
    ((length (names n ls), parts_named n ls), λ c d p q. omega (arith, parts_le n ls c d p q, parts_le n ls d c q p))
