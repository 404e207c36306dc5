-- The sum over all assignments, slot by slot.
-- Assumes nothing.
use Rattle.std.proofs.Common.{◌≡◌, ℕ, suc, ◌+◌, ◌-◌, ◌*◌, ◌<◌, ◌≤◌, Bool, true, false, List, [], ◌∷◌, ◌++◌, map, length, get_or, take, Some, None, sym, ap, ◌∙◌, ap₂, subst, zero-add, append_assoc, length-append, arith}
use Rattle.std.specs.Bool.{MatchBool}
use Rattle.std.specs.List.{range_with_len, enumerate_from, AllWithin, HoldsAt}
use Rattle.std.proofs.lemmas.Bool.Decides.{nat_tests}
use Rattle.std.proofs.lemmas.Bool.{cond-true}
use Rattle.std.proofs.lemmas.List.{take_at, get_or_default}
use Rattle.std.proofs.lemmas.List.FromFn.{length-enumerate_from, get_or-enumerate_from}
use Rattle.algebra.specs.Semiring.{Ops, Laws}
use Rattle.pedigree.specs.declared.families.Family.{Family}
use Rattle.pedigree.specs.declared.persons.Meiosis.{Meiosis}
use Rattle.pedigree.specs.declared.persons.Person.{Person}
use Rattle.pedigree.specs.Building.{persons_of}
use Rattle.pedigree.specs.Families.{founders_in}
use Rattle.pedigree.specs.Slots.{slots_of, slots_at, SlotsBelow}
use Rattle.pedigree.proofs.Descents.{descent_stands}
use Rattle.pedigree.proofs.Entering.{family_lawful}
use Rattle.readings.specs.declared.class.Class.{Class}
use Rattle.figures.specs.Assignments.{assignments, allele}
use Rattle.figures.specs.Figure.{product, fits_all, weights}
use Rattle.figures.specs.Lists.{fold}
use Rattle.figures.specs.Locus.{Reading}
use Rattle.figures.specs.View.{readings_of, locus_of}
use Rattle.figures.proofs.Folds.{fold_cong, fold_map, fold_joined, fold_append, fold_kept, neutral_right}
use Rattle.figures.proofs.Viewed.{fits_all_from, fits_all_not}
use Rattle.enumeration.specs.Answer.{answer, small, added, sum_after}

-- what the assignments of the slots add that begin with the alleles given
abbrev pub sum_behind : {V : Type 0} → Ops V → (ℕ → V) → List Reading → ℕ → ℕ → List ℕ → V
sum_behind o w rs k slots front = sum_after o w rs k (slots - length front) front

module _ {V : Type 0} (o : Ops V) (l : Laws o) where
  -- one factor more
  pub product_more : (w : ℕ → V) (ρ : List ℕ) (a : ℕ) → o.product (product o w ρ) (w a) ≡ product o w (ρ ++ a ∷ [])
  product_more w ρ a =
      ap (o.product (product o w ρ)) (sym (neutral_right l.products (w a))) ∙ sym (fold_append l.products ρ (a ∷ []) w)

  module _ (w : ℕ → V) (rs : List Reading) (k : ℕ) where
    after_more : (n : ℕ) (front : List ℕ) → sum_after o w rs k (suc n) front ≡ fold o.zero o.sum (range_with_len 0 k) (λ a. sum_after o w rs k n (front ++ a ∷ []))
    after_more n front =
        fold_joined l.sums (λ a. map (λ ρ. a ∷ ρ) (assignments n k)) (λ ρ. added o w rs (front ++ ρ)) (range_with_len 0 k)
        ∙ fold_cong o.zero o.sum (range_with_len 0 k) _ _
        (λ a. fold_map o.zero o.sum (λ ρ. a ∷ ρ) (λ ρ. added o w rs (front ++ ρ)) (assignments n k)
        ∙ fold_cong o.zero o.sum (assignments n k) _ _ (λ ρ. ap (added o w rs) (sym (append_assoc front (a ∷ []) ρ))))

    pub behind_more : (slots : ℕ) (front : List ℕ) → length front < slots → fold o.zero o.sum (range_with_len 0 k) (λ a. sum_behind o w rs k slots (front ++ a ∷ [])) ≡ sum_behind o w rs k slots front
    behind_more slots front h =
        let n = slots - (length front + 1) in
        let one_less : (a : ℕ) → slots - length (front ++ a ∷ []) ≡ n = λ a. omega (arith, length-append front (a ∷ [])) in
        let e : slots - length front ≡ suc n = omega arith in
        fold_cong o.zero o.sum (range_with_len 0 k) _ _ (λ a. ap (λ m. sum_after o w rs k m (front ++ a ∷ [])) (one_less a))
        ∙ sym (ap (λ m. sum_after o w rs k m front) e ∙ after_more n front)

-- the persons, gone through with their numbers
module _ (held : List (ℕ × ℕ)) where
  person_at : (k : ℕ) (d : ℕ × (ℕ × ℕ)) → k < length held → get_or (enumerate_from 0 held) k d ≡ (k, slots_at held k)
  person_at k d h = get_or-enumerate_from 0 held k d h ∙ ap₂ (λ i e. (i, e)) (zero-add k) (get_or_default held k d.1 (0, 0) h)

  pub person_below : (n : ℕ) → SlotsBelow n held → (p : ℕ × (ℕ × ℕ)) (k : ℕ) → k < length (enumerate_from 0 held) → p ≡ get_or (enumerate_from 0 held) k p → (p.1.0 < n) × (p.1.1 < n)
  person_below n b p k h e =
      let l : k < length held = omega (arith, length-enumerate_from 0 held) in
      subst (λ q. (q.1.0 < n) × (q.1.1 < n)) (sym (e ∙ person_at k p l)) (b k l)

  module _ (class : ℕ → Class) (fit : ℕ → ℕ → ℕ → Bool) (ρ : List ℕ) where
    abbrev pub fits_at : Bool → ℕ × (ℕ × ℕ) → Type 0
    fits_at b p = fit p.0 (allele ρ p.1.0) (allele ρ p.1.1) ≡ b

    pub fits_each : (b : Bool) → MatchBool b (AllWithin (fits_at true) (enumerate_from 0 held) 0 (length (enumerate_from 0 held))) ((k : ℕ) × (k < length (enumerate_from 0 held)) × HoldsAt (fits_at false) (enumerate_from 0 held) k) → b ≡ fits_all (readings_of held class fit) ρ
    fits_each true h =
        sym (fits_all_from held class fit ρ (λ k l. subst (fits_at true) (person_at k (0, (0, 0)) l) (h k (0, (0, 0)) (omega arith) (omega (arith, length-enumerate_from 0 held)))))
    fits_each false (k, l, h) =
        let l' : k < length held = omega (arith, length-enumerate_from 0 held) in
        sym (fits_all_not held class fit ρ k l' (subst (fits_at false) (person_at k (0, (0, 0)) l') (h (0, (0, 0)))))

-- the slots of a family's persons, in front of what the memory holds behind them
pub front_held : (f : Family) (bits : List Meiosis) (held rest : List (ℕ × ℕ)) → held ≡ slots_of (persons_of f) bits ++ rest → take (length (persons_of f)) held ≡ slots_of (persons_of f) bits
front_held f bits held rest e =
    ap (take (length (persons_of f))) e
    ∙ take_at (slots_of (persons_of f) bits) rest (length (persons_of f)) (descent_stands (persons_of f) bits (family_lawful f).2).0.all

pub answered : {V : Type 0} (o : Ops V) → Laws o → (persons : List Person) (bits : List Meiosis) (class : ℕ → Class) (fits : ℕ → ℕ → ℕ → Bool) (costs : List ℕ) (slots : ℕ) (held : List (ℕ × ℕ)) (x : V) → slots ≡ 2 * founders_in persons → slots ≤ 8 → length costs ≤ 4 → held ≡ slots_of persons bits → x ≡ sum_after o (weights o costs) (readings_of held class fits) (length costs) (slots - 0) [] → Some x ≡ answer o persons bits class fits costs
answered o l persons bits class fits costs slots held x e few least h s =
    let L = locus_of persons bits (length costs) class fits in
    let small-enough : small persons costs ≡ true = grind (arith, nat_tests) in
    let n : slots - 0 ≡ 2 * founders_in persons = omega arith in
    ap Some (s ∙ ap₂ (λ hs m. sum_after o (weights o costs) (readings_of hs class fits) (length costs) m []) h n ∙ sym (fold_kept l.sums (fits_all L.readings) (product o (weights o costs)) (assignments L.slots L.alleles)))
    ∙ sym (cond-true (small persons costs) _ None small-enough)
