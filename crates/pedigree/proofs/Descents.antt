-- The slots worked out keep the law of descent, stay below twice the founders, and are the only ones that keep it. Assumes nothing.
use Rattle.std.proofs.Common.{◌≡◌, ℕ, zero, suc, ◌+◌, ◌*◌, ◌<◌, ◌≤◌, Bool, true, false, List, [], ◌∷◌, ◌++◌, length, take, sym, refl, ap, ◌∙◌, subst, inl, inr, arith}
use Rattle.std.proofs.lemmas.List.{length_push, get_or_push, get_or_append_left, get_or_past, take-append-le, take_at, append_assoc, append-nil, ext_get_or}
use Rattle.std.proofs.lemmas.Bool.{cases_lt, and_parts, ltb-true}
use Rattle.pedigree.specs.declared.persons.Meiosis.{Meiosis}
use Rattle.pedigree.specs.declared.persons.Person.{Person}
use Rattle.pedigree.specs.declared.persons.Person.TheVariants.{Founder, Child}
use Rattle.pedigree.specs.Families.{founders_in, parents_below, person_at, ParentsFirst}
use Rattle.pedigree.specs.Slots.{taken, bits_at, slots_at, held_by, slots_after, slots_of, Descent, SlotsBelow, DescentStands, DescentSettled}
use Rattle.pedigree.proofs.Entering.{founders_in_push}

-- what a person holds rests on the slots of the persons below it alone
pub held_same : (i : ℕ) (b : Meiosis) (s t : List (ℕ × ℕ)) (x : Person) (p : ℕ) → parents_below p x ≡ true → ((k : ℕ) → k < p → slots_at s k ≡ slots_at t k) → held_by i b s x ≡ held_by i b t x
held_same i b s t Founder p below same = refl
held_same i b s t (Child m f) p below same =
    let both = and_parts _ _ below in
    let mother : slots_at s m ≡ slots_at t m = same m (ltb-true m p both.0) in
    let father : slots_at s f ≡ slots_at t f = same f (ltb-true f p both.1) in
    rw (mother, father)

-- both slots of a person, below n
abbrev BothBelow : ℕ → ℕ × ℕ → Type 0
BothBelow n s = (s.0 < n) × (s.1 < n)

taken_below : (n : ℕ) (b : Bool) (s : ℕ × ℕ) → BothBelow n s → taken b s < n
taken_below n false s h = h.0
taken_below n true s h = h.1

held_below : (i n p : ℕ) (b : Meiosis) (s : List (ℕ × ℕ)) (x : Person) → parents_below p x ≡ true → ((k : ℕ) → k < p → BothBelow n (slots_at s k)) → 2 * (i + founders_in (x ∷ [])) ≤ n → BothBelow n (held_by i b s x)
held_below i n p b s Founder below each few = (omega arith, omega arith)
held_below i n p b s (Child m f) below each few =
    let both = and_parts _ _ below in
    (taken_below n b.maternal _ (each m (ltb-true m p both.0)), taken_below n b.paternal _ (each f (ltb-true f p both.1)))

-- every person has the slots that it holds from the slots told, and all are below twice the founders
record Told (ps : List Person) (bs : List Meiosis) (s : List (ℕ × ℕ)) : Type 0 where
  all : length s ≡ length ps
  own : (p : ℕ) → p < length ps → slots_at s p ≡ held_by (founders_in (take p ps)) (bits_at bs p) s (person_at ps p)
  low : SlotsBelow (2 * founders_in ps) s

told_push : (ps : List Person) (bs : List Meiosis) (s : List (ℕ × ℕ)) (x : Person) → ParentsFirst (ps ++ x ∷ []) → Told ps bs s → Told (ps ++ x ∷ []) bs (s ++ held_by (founders_in ps) (bits_at bs (length s)) s x ∷ [])
told_push ps bs s x first old =
    let y : ℕ × ℕ = held_by (founders_in ps) (bits_at bs (length s)) s x in
    let keeps : (k : ℕ) → k < length ps → slots_at (s ++ y ∷ []) k ≡ slots_at s k = λ k l. get_or_append_left s (y ∷ []) (0, 0) k (omega (arith, old.all)) in
    let new : slots_at (s ++ y ∷ []) (length ps) ≡ y = get_or_push s y (0, 0) (length ps) old.all in
    let last : person_at (ps ++ x ∷ []) (length ps) ≡ x = get_or_push ps x Founder (length ps) refl in
    let here : parents_below (length ps) x ≡ true = subst (λ z. parents_below (length ps) z ≡ true) last (first (length ps)) in
    let more : founders_in (ps ++ x ∷ []) ≡ founders_in ps + founders_in (x ∷ []) = founders_in_push ps x in
    let longer : length (ps ++ x ∷ []) ≡ length ps + 1 = length_push ps x in
    let n : ℕ = 2 * founders_in (ps ++ x ∷ []) in
    let Own : ℕ → Type 0 = λ p. slots_at (s ++ y ∷ []) p ≡ held_by (founders_in (take p (ps ++ x ∷ []))) (bits_at bs p) (s ++ y ∷ []) (person_at (ps ++ x ∷ []) p) in
    let low-old : (k : ℕ) → k < length ps → BothBelow n (slots_at s k) =
    λ k l. (omega (arith, (old.low k (omega (arith, old.all))).0, more), omega (arith, (old.low k (omega (arith, old.all))).1, more)) in
    let own_old : (p : ℕ) → p < length ps → Own p =
    λ p l.
    let same : person_at (ps ++ x ∷ []) p ≡ person_at ps p = get_or_append_left ps (x ∷ []) Founder p l in
    let below : parents_below p (person_at ps p) ≡ true = subst (λ z. parents_below p z ≡ true) same (first p) in
    let still = held_same (founders_in (take p ps)) (bits_at bs p) (s ++ y ∷ []) s (person_at ps p) p below (λ k h. keeps k (omega arith)) in
    cc (keeps p l, old.own p l, still, take-append-le p ps (x ∷ []) (omega arith), same) in
    let own_new : Own (length ps) =
    cc (new, held_same (founders_in ps) (bits_at bs (length s)) (s ++ y ∷ []) s x (length ps) here keeps, take_at ps (x ∷ []) (length ps) refl, old.all, last) in
    let low-new : BothBelow n y = held_below (founders_in ps) n (length ps) (bits_at bs (length s)) s x here low-old (omega (arith, more)) in
    record {
      all = length_push s y ∙ ap (λ k. k + 1) old.all ∙ sym longer;
      own = λ p l. elim (cases_lt p (length ps)) [ inl h ↦ own_old p h | inr h ↦ subst Own (omega (arith, longer)) own_new ];
      low = λ p l.
          elim (cases_lt p (length ps)) [
            | inl h ↦ subst (BothBelow n) (sym (keeps p h)) (low-old p h)
            | inr h ↦ subst (λ k. BothBelow n (slots_at (s ++ y ∷ []) k)) (omega (arith, length_push s y, old.all)) (subst (BothBelow n) (sym new) low-new)
          ];
    }

parents_front : (ps qs : List Person) → ParentsFirst (ps ++ qs) → ParentsFirst ps
parents_front ps qs first p =
    elim (cases_lt p (length ps)) [
      | inl l ↦ subst (λ z. parents_below p z ≡ true) (get_or_append_left ps qs Founder p l) (first p)
      | inr g ↦ ap (parents_below p) (get_or_past ps p Founder g)
    ]

told_after : (xs done : List Person) (bs : List Meiosis) (s : List (ℕ × ℕ)) → ParentsFirst (done ++ xs) → Told done bs s → Told (done ++ xs) bs (slots_after s (founders_in done) xs bs)
told_after [] done bs s first old = subst (λ ps. Told ps bs s) (sym (append-nil done)) old
told_after (x ∷ xs) done bs s first old =
    let assoc : (done ++ x ∷ []) ++ xs ≡ done ++ x ∷ xs = append_assoc done (x ∷ []) xs in
    let firsts : ParentsFirst ((done ++ x ∷ []) ++ xs) = subst ParentsFirst (sym assoc) first in
    let y : ℕ × ℕ = held_by (founders_in done) (bits_at bs (length s)) s x in
    let step : Told ((done ++ x ∷ []) ++ xs) bs (slots_after (s ++ y ∷ []) (founders_in (done ++ x ∷ [])) xs bs) =
    told_after xs (done ++ x ∷ []) bs (s ++ y ∷ []) firsts (told_push done bs s x (parents_front (done ++ x ∷ []) xs firsts) old) in
    subst (λ i. Told (done ++ x ∷ xs) bs (slots_after (s ++ y ∷ []) i xs bs)) (founders_in_push done x) (subst (λ ps. Told ps bs (slots_after (s ++ y ∷ []) (founders_in (done ++ x ∷ [])) xs bs)) assoc step)

told_of : (ps : List Person) (bs : List Meiosis) → ParentsFirst ps → Told ps bs (slots_of ps bs)
told_of ps bs first = told_after ps [] bs [] first (record { all = refl; own = λ p l. absurd (omega arith); low = λ p l. absurd (omega arith) })

-- a child is a person of the family
child_within : (ps : List Person) (p m f : ℕ) → person_at ps p ≡ Child m f → p < length ps
child_within ps p m f e =
    elim (cases_lt p (length ps)) [
      | inl l ↦ l
      | inr g ↦ let past : person_at ps p ≡ Founder = get_or_past ps p Founder g in cc
    ]

pub descent_stands : DescentStands
descent_stands ps bs first =
    let s = slots_of ps bs in
    let t = told_of ps bs first in (
      record {
        all = t.all;
        founder = λ p l e. t.own p l ∙ ap (held_by (founders_in (take p ps)) (bits_at bs p) s) e;
        child = λ p m f e. t.own p (child_within ps p m f e) ∙ ap (held_by (founders_in (take p ps)) (bits_at bs p) s) e;
      },
      t.low,
    )

descent_own : (ps : List Person) (bs : List Meiosis) (s : List (ℕ × ℕ)) → Descent ps bs s → (p : ℕ) → p < length ps → (x : Person) → person_at ps p ≡ x → slots_at s p ≡ held_by (founders_in (take p ps)) (bits_at bs p) s x
descent_own ps bs s d p l Founder e = d.founder p l e
descent_own ps bs s d p l (Child m f) e = d.child p m f e

module _ (ps : List Person) (bs : List Meiosis) (s t : List (ℕ × ℕ)) (first : ParentsFirst ps) (d : Descent ps bs s) (e : Descent ps bs t) where
  same_below : (n : ℕ) → n ≤ length ps → (k : ℕ) → k < n → slots_at s k ≡ slots_at t k
  same_below zero l k h = absurd (omega arith)
  same_below (suc n) l k h =
      let here : slots_at s n ≡ slots_at t n =
      descent_own ps bs s d n (omega arith) (person_at ps n) refl
      ∙ held_same _ _ s t (person_at ps n) n (first n) (same_below n (omega arith))
      ∙ sym (descent_own ps bs t e n (omega arith) (person_at ps n) refl) in
      elim (cases_lt k n) [ inl b ↦ same_below n (omega arith) k b | inr g ↦ subst (λ j. slots_at s j ≡ slots_at t j) (omega arith) here ]

pub descent_settled : DescentSettled
descent_settled ps bs s t first d e =
    ext_get_or (0, 0) s t (d.all ∙ sym e.all) (λ i l. same_below ps bs s t first d e (length ps) (omega arith) i (omega (arith, d.all)))
