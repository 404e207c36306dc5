-- The links laid are those of the readings.
-- Assumes nothing.
use Rattle.std.proofs.Common.{◌≡◌, ℕ, ◌+◌, ◌<◌, Bool, true, false, cond, List, [], ◌∷◌, ◌++◌, nat_lt, map, length, get_or, Some, None, Ok, Result, MatchResult, if◌then◌else◌, sym, refl, ap, ◌∙◌, subst, arith}
use Rattle.std.specs.List.{range_with_len}
use Rattle.std.proofs.lemmas.List.FromFn.{length-map-range_with_len, map-range_with_len_more}
use Rattle.std.proofs.lemmas.Bool.{and_from, lt-ltb, cond-true}
use Rattle.forest.specs.Entries.{links_laid, in_range}
use Rattle.forest.specs.Laid.{laid, has_room, lay_answer, pass_answer}
use Rattle.forest.specs.declared.faults.LayFault.{LayFault}
use Rattle.forest.specs.declared.trees.Forest.{Forest}
use Rattle.pedigree.specs.Slots.{slots_at}
use Rattle.readings.specs.declared.class.Class.{Class}
use Rattle.figures.specs.Locus.{loud}
use Rattle.figures.specs.Lists.{kept}
use Rattle.figures.specs.Graph.{links}
use Rattle.figures.specs.View.{reading_of, readings_of}
use Rattle.sums.specs.Seen.{told}
use Rattle.sums.specs.declared.slots.Held.{Held}
use Rattle.sums.proofs.Views.{told_at, told_length}
use Rattle.graph.specs.Entries.{entry_of, entries_of}

-- the entries of all persons have the links of their readings
pub laid_links : (slots : List (ℕ × ℕ)) (class : ℕ → Class) (fits : ℕ → ℕ → ℕ → Bool) → links_laid (entries_of slots class) ≡ links (readings_of slots class fits)
laid_links slots class fits = go (range_with_len 0 (length slots))
  where
    one : (b : Bool) (p : ℕ) (ps : List ℕ) → links_laid (map (entry_of slots class) ps) ≡ links (map (reading_of slots class fits) ps) → links_laid (cond b (Some (slots_at slots p)) None ∷ map (entry_of slots class) ps) ≡ map (λ r. r.ends) (cond b (reading_of slots class fits p ∷ kept (λ r. loud r.class) (map (reading_of slots class fits) ps)) (kept (λ r. loud r.class) (map (reading_of slots class fits) ps)))
    one true p ps e = ap (λ ls. slots_at slots p ∷ ls) e
    one false p ps e = e

    go : (ps : List ℕ) → links_laid (map (entry_of slots class) ps) ≡ links (map (reading_of slots class fits) ps)
    go [] = refl
    go (p ∷ ps) = one (loud (class p)) p ps (go ps)

-- Where the persons before it are laid, a person is not refused, and its entry is the next of all persons.
-- The pairs are those of the persons, as the loop over them knows them.
module _ (h : Held) (class : ℕ → Class) (pairs : List (ℕ × ℕ)) (p : ℕ) (before : Forest) (is : pairs ≡ told h) (near : p < length pairs) (inv : laid before ≡ map (entry_of (told h) class) (range_with_len 0 p)) where
  within : p < h.persons
  within = omega (arith, near, ap length is, told_length h class (λ _ _ _. true))

  room : has_room (laid before) ≡ true
  room =
      lt-ltb (length (laid before)) 64 (omega (arith, within, h.within.1, ap length inv ∙ length-map-range_with_len (entry_of (told h) class) 0 p))

  inside : in_range (get_or pairs p (0, 0)) ≡ true
  inside =
      let slots = get_or h.pairs p (0, 0) in
      let b = h.within.3 p within in
      ap in_range (ap (λ xs. get_or xs p (0, 0)) is ∙ told_at h class (λ _ _ _. true) p within)
      ∙ and_from (nat_lt slots.0 64) (nat_lt slots.1 64) (lt-ltb slots.0 64 (omega (arith, b.0, h.within.2))) (lt-ltb slots.1 64 (omega (arith, b.1, h.within.2)))

  -- with a link or with none
  pub taken : (b : Bool) → (if b then lay_answer (laid before) (get_or pairs p (0, 0)) else pass_answer (laid before)) ≡ Ok tt
  taken true = cond-true (has_room (laid before)) _ _ room ∙ cond-true (in_range (get_or pairs p (0, 0))) _ _ inside
  taken false = cond-true (has_room (laid before)) _ _ room

  pub next : (r : Result (Unit {0}) LayFault) (after : Forest) → r ≡ Ok tt → MatchResult r (λ _. laid after ≡ laid before ++ (if loud (class p) then Some (get_or pairs p (0, 0)) else None) ∷ []) (λ _. after ≡ before) → laid after ≡ map (entry_of (told h) class) (range_with_len 0 (p + 1))
  next r after ok m =
      subst (λ q. MatchResult q (λ _. laid after ≡ laid before ++ (if loud (class p) then Some (get_or pairs p (0, 0)) else None) ∷ []) (λ _. after ≡ before)) ok m
      ∙ ap (λ xs. laid before ++ cond (loud (class p)) (Some (get_or xs p (0, 0))) None ∷ []) is
      ∙ ap (λ es. es ++ entry_of (told h) class p ∷ []) inv ∙ sym (map-range_with_len_more (entry_of (told h) class) 0 p p (omega arith))
