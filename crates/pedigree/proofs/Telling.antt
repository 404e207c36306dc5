-- Telling the slots of a family person by person, into an array of 64 pairs. Assumes nothing.
use Rattle.std.proofs.Common.{◌≡◌, ℕ, ◌+◌, ◌-◌, ◌<◌, ◌≤◌, List, [], ◌∷◌, ◌++◌, length, take, drop, set, replicate, sym, ap, ◌∙◌, arith}
use Rattle.std.proofs.lemmas.List.{length-set, length-take-le, take_more_set, take-append-drop, drop-set-lt, drop-drop, drop-replicate, at_drop_more, at_drop_all}
use Rattle.pedigree.specs.declared.persons.Meiosis.{Meiosis}
use Rattle.pedigree.specs.declared.persons.Person.{Person}
use Rattle.pedigree.specs.declared.persons.Person.TheVariants.{Founder, Child}
use Rattle.pedigree.specs.Families.{founders_in, person_at}
use Rattle.pedigree.specs.Slots.{bits_at, held_by, slots_after, slots_of}

-- the slots told of the persons below p and the persons still to come give the slots of all; behind those told stands (0, 0)
pub record Telling (ps : List Person) (bs : List Meiosis) (slots : List (ℕ × ℕ)) (i : ℕ) (p : ℕ) : Type 0 where
  pub long : length slots ≡ 64
  pub few : i ≤ p
  pub blank : drop p slots ≡ replicate (64 - p) (0, 0)
  pub told : slots_after (take p slots) i (drop p ps) bs ≡ slots_of ps bs

one_founder : (x : Person) → founders_in (x ∷ []) ≤ 1
one_founder Founder = omega arith
one_founder (Child m f) = omega arith

module _ (ps : List Person) (bs : List Meiosis) (slots : List (ℕ × ℕ)) (i p : ℕ) (inv : Telling ps bs slots i p) where
  pub telling_more : (j : ℕ) (x : Person) → length ps ≤ 64 → p < length ps → person_at ps p ≡ x → j ≡ i + founders_in (x ∷ []) → Telling ps bs (set slots p (held_by i (bits_at bs p) (take p slots) x)) j (p + 1)
  telling_more j x room l at count-on =
      let before : List (ℕ × ℕ) = take p slots in
      let y : ℕ × ℕ = held_by i (bits_at bs p) before x in
      let long : length before ≡ p = length-take-le p slots (omega (arith, inv.long)) in
      let step : slots_after before i (drop p ps) bs ≡ slots_after (before ++ held_by i (bits_at bs (length before)) before (person_at ps p) ∷ []) (i + founders_in (person_at ps p ∷ [])) (drop (p + 1) ps) bs =
      at_drop_more (λ xs. slots_after before i xs bs) ps p Founder (omega arith) in
      let rest : drop {A = ℕ × ℕ} 1 (replicate (64 - p) (0, 0)) ≡ replicate (64 - (p + 1)) (0, 0) = drop-replicate 1 (64 - p) (0, 0) ∙ ap (λ n. replicate n (0, 0)) (omega arith) in
      record {
        long = length-set slots p y ∙ inv.long;
        few = omega (arith, one_founder x, inv.few);
        blank = cc (drop-set-lt (p + 1) slots p y (omega arith), drop-drop 1 p slots, inv.blank, rest);
        told = cc (take_more_set slots p y (omega (arith, inv.long)), count-on, step, long, at, inv.told);
      }

  -- when all persons are told, the slots told are those of the family, and (0, 0) stands behind them
  pub telling_all : p ≡ length ps → (take (length ps) slots ≡ slots_of ps bs) × (slots ≡ slots_of ps bs ++ replicate (64 - length ps) (0, 0))
  telling_all e =
      let told : take p slots ≡ slots_of ps bs = sym (at_drop_all (λ xs. slots_after (take p slots) i xs bs) ps p (omega arith)) ∙ inv.told in (
        ap (λ n. take n slots) (sym e) ∙ told,
        sym (take-append-drop p slots) ∙ ap (λ s. s ++ drop p slots) told ∙ ap (λ s. slots_of ps bs ++ s) (inv.blank ∙ ap (λ n. replicate (64 - n) (0, 0)) e),
      )
