-- The name of a slot is the lowest slot that links join it to: two slots have one name exactly if a chain joins them.
-- Assumes nothing.
use Rattle.std.proofs.Common.{◌≡◌, ℕ, ◌≤◌, min, max, cond, eqb, ◌⊎◌, List, [], ◌∷◌, sym, refl, ap, ◌∙◌, subst, inl, inr, arith}
use Rattle.std.proofs.lemmas.Bool.Decides.{nat_tests}
use Rattle.figures.specs.Lists.{In}
use Rattle.figures.specs.Graph.{Chain, same, link, back, join}

-- a link gives the higher of two names up for the lower
abbrev renamed : ℕ → ℕ → ℕ → ℕ
renamed x y z = cond (eqb z (max x y)) (min x y) z

abbrev pub name : List (ℕ × ℕ) → ℕ → ℕ
name [] s = s
name (l ∷ ls) s =
    let x = name ls l.0 in
    let y = name ls l.1 in
    let z = name ls s in
    renamed x y z

renamed_to : (x y z : ℕ) → (renamed x y z ≡ z) ⊎ (((z ≡ x) × (renamed x y z ≡ y)) ⊎ ((z ≡ y) × (renamed x y z ≡ x)))
renamed_to x y z = grind (arith, nat_tests)

renamed_le : (x y z : ℕ) → renamed x y z ≤ z
renamed_le x y z = grind (arith, nat_tests)

renamed_first : (x y : ℕ) → renamed x y x ≡ min x y
renamed_first x y = grind (arith, nat_tests)

renamed_second : (x y : ℕ) → renamed x y y ≡ min x y
renamed_second x y = grind (arith, nat_tests)

pub name_le : (ls : List (ℕ × ℕ)) (s : ℕ) → name ls s ≤ s
name_le [] s = omega arith
name_le (l ∷ ls) s = omega (arith, renamed_le (name ls l.0) (name ls l.1) (name ls s), name_le ls s)

-- more links join no less
pub more_links : (l : ℕ × ℕ) {ls : List (ℕ × ℕ)} {s t : ℕ} → Chain ls s t → Chain (l ∷ ls) s t
more_links l same = same
more_links l (link i) = link (inr i)
more_links l (back c) = back (more_links l c)
more_links l (join c d) = join (more_links l c) (more_links l d)

equal_chain : (ls : List (ℕ × ℕ)) {s t : ℕ} → s ≡ t → Chain ls s t
equal_chain ls {s} e = subst (Chain ls s) e same

across : (l : ℕ × ℕ) (ls : List (ℕ × ℕ)) → Chain ls l.0 (name ls l.0) → Chain ls l.1 (name ls l.1) → Chain (l ∷ ls) (name ls l.0) (name ls l.1)
across l ls p q = join (back (more_links l p)) (join (link (inl refl)) (more_links l q))

pub name_chain : (ls : List (ℕ × ℕ)) (s : ℕ) → Chain ls s (name ls s)
name_chain [] s = same
name_chain (l ∷ ls) s =
    join (more_links l (name_chain ls s)) (go (across l ls (name_chain ls l.0) (name_chain ls l.1)) (renamed_to (name ls l.0) (name ls l.1) (name ls s)))
  where
    go : {x y z r : ℕ} → Chain (l ∷ ls) x y → (r ≡ z) ⊎ (((z ≡ x) × (r ≡ y)) ⊎ ((z ≡ y) × (r ≡ x))) → Chain (l ∷ ls) z r
    go c (inl e) = equal_chain (l ∷ ls) (sym e)
    go c (inr (inl p)) = join (equal_chain (l ∷ ls) p.0) (join c (equal_chain (l ∷ ls) (sym p.1)))
    go c (inr (inr p)) = join (equal_chain (l ∷ ls) p.0) (join (back c) (equal_chain (l ∷ ls) (sym p.1)))

link_name : (ls : List (ℕ × ℕ)) (s t : ℕ) → In (s, t) ls → name ls s ≡ name ls t
link_name [] s t i = elim i [ ]
link_name (l ∷ ls) s t (inl e) =
    let x = name ls l.0 in
    let y = name ls l.1 in
    ap (λ p. renamed x y (name ls p.0)) e ∙ renamed_first x y ∙ sym (renamed_second x y) ∙ ap (λ p. renamed x y (name ls p.1)) (sym e)
link_name (l ∷ ls) s t (inr i) = ap (renamed (name ls l.0) (name ls l.1)) (link_name ls s t i)

pub chain_name : {ls : List (ℕ × ℕ)} {s t : ℕ} → Chain ls s t → name ls s ≡ name ls t
chain_name same = refl
chain_name {ls} {s} {t} (link i) = link_name ls s t i
chain_name (back c) = sym (chain_name c)
chain_name (join c d) = chain_name c ∙ chain_name d

pub name_own : (ls : List (ℕ × ℕ)) (s : ℕ) → name ls (name ls s) ≡ name ls s
name_own ls s = sym (chain_name (name_chain ls s))

pub same_name_chain : (ls : List (ℕ × ℕ)) (s t : ℕ) → name ls s ≡ name ls t → Chain ls s t
same_name_chain ls s t e = join (name_chain ls s) (join (equal_chain ls e) (back (name_chain ls t)))
