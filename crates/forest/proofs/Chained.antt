-- Chains do not depend on the order of the links; the root of a slot is its name.
-- Assumes nothing.
use Rattle.std.proofs.Common.{◌≡◌, ℕ, ◌⊎◌, List, [], ◌∷◌, reverse, sym, subst, inl, inr, arith}
use mathlib.Core.List.{reverse-cons}
use Rattle.figures.specs.Lists.{In}
use Rattle.figures.specs.Graph.{Chain, same, link, back, join, Parts}
use Rattle.figures.proofs.Members.{in_left, in_right, in_append}
use Rattle.figures.proofs.Names.{name, name_le, name_chain, chain_name}
use Rattle.forest.specs.Entries.{Root, Tells}

chain_over : {ls ms : List (ℕ × ℕ)} {s t : ℕ} → ((l : ℕ × ℕ) → In l ls → In l ms) → Chain ls s t → Chain ms s t
chain_over f same = same
chain_over f (link i) = link (f _ i)
chain_over f (back c) = back (chain_over f c)
chain_over f (join c d) = join (chain_over f c) (chain_over f d)

in_reverse : (l : ℕ × ℕ) (ls : List (ℕ × ℕ)) → In l ls → In l (reverse ls)
in_reverse l [] i = elim i [ ]
in_reverse l (m ∷ ls) (inl e) = subst (In l) (sym (reverse-cons m ls)) (in_right l (reverse ls) (m ∷ []) (inl e))
in_reverse l (m ∷ ls) (inr i) = subst (In l) (sym (reverse-cons m ls)) (in_left l (reverse ls) (m ∷ []) (in_reverse l ls i))

reverse_in : (l : ℕ × ℕ) (ls : List (ℕ × ℕ)) → In l (reverse ls) → In l ls
reverse_in l [] i = i
reverse_in l (m ∷ ls) i = go (reverse_in l ls) (in_append l (reverse ls) (m ∷ []) (subst (In l) (reverse-cons m ls) i))
  where
    go : (In l (reverse ls) → In l ls) → In l (reverse ls) ⊎ In l (m ∷ []) → In l (m ∷ ls)
    go f (inl j) = inr (f j)
    go f (inr (inl e)) = inl e
    go f (inr (inr j)) = elim j [ ]

chain_reversed : (ls : List (ℕ × ℕ)) {s t : ℕ} → Chain ls s t → Chain (reverse ls) s t
chain_reversed ls c = chain_over (λ l. in_reverse l ls) c

reversed_chain : (ls : List (ℕ × ℕ)) {s t : ℕ} → Chain (reverse ls) s t → Chain ls s t
reversed_chain ls c = chain_over (λ l. reverse_in l ls) c

-- the name of a slot, by the links with the last one first, is its root
pub name_root : (ls : List (ℕ × ℕ)) (s r : ℕ) → name (reverse ls) s ≡ r → Root ls s r
name_root ls s r e = (
  subst (Chain ls s) e (reversed_chain ls (name_chain (reverse ls) s)),
  λ t c. omega (arith, chain_name (chain_reversed ls c), name_le (reverse ls) t),
)

-- of two slots with their roots: the roots are one exactly if a chain joins the slots
pub roots_tell : (ls : List (ℕ × ℕ)) (s r : ℕ) → Root ls s r → Tells ls s r
roots_tell ls s r p t q h = (
  λ e. join p.0 (subst (λ u. Chain ls u t) (sym e) (back h.0)),
  λ c. let a = p.1 q (join c h.0) in let b = h.1 r (join (back c) p.0) in omega arith,
)

-- the number of components does not depend on the order of the links
pub reversed_parts : (n c : ℕ) (ls : List (ℕ × ℕ)) → Parts n (reverse ls) c → Parts n ls c
reversed_parts n c ls p = record {
  ones = p.ones;
  number = p.number;
  once = p.once;
  within = p.within;
  apart = λ s t i j k. p.apart s t i j (chain_reversed ls k);
  covered = λ s h. let q = p.covered s h in (q.0, q.1, reversed_chain ls q.2);
}

-- a root is the name of its slot
pub root_name : (ls : List (ℕ × ℕ)) (s r : ℕ) → Root ls s r → r ≡ name (reverse ls) s
root_name ls s r p =
    omega
    (arith, p.1 (name (reverse ls) s) (reversed_chain ls (name_chain (reverse ls) s)), chain_name (chain_reversed ls p.0), name_le (reverse ls) r)
