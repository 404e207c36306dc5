-- The last person taken back: what the memory keeps of the persons before it.
-- Assumes nothing.
use Rattle.std.proofs.Common.{◌≡◌, ℕ, ◌+◌, ◌-◌, ◌<◌, true, List, [], ◌∷◌, ◌++◌, length, get_or, set, Some, None, Option, sym, ap, ◌∙◌, ap₂, arith}
use Rattle.std.proofs.lemmas.List.{map_more}
use Rattle.std.proofs.lemmas.Bool.{and_parts}
use Rattle.figures.specs.Lists.{every}
use Rattle.forest.specs.declared.trees.Forest.{Forest}
use Rattle.forest.specs.declared.trees.Tie.{Tie}
use Rattle.forest.specs.Entries.{in_range}
use Rattle.forest.specs.Hanging.{entry, first_entries, newest, parents, hung_by}
use Rattle.forest.specs.Laid.{laid}
use Rattle.forest.proofs.Hung.{hung_by_below, parents_back}
use Rattle.forest.proofs.Growing.{newest_none, newest_some, Memory, persons_laid}

range_before : (es : List (Option (ℕ × ℕ))) (e : Option (ℕ × ℕ)) → every in_range (newest (es ++ e ∷ [])) ≡ true → every in_range (newest es) ≡ true
range_before es None range = ap (every in_range) (sym (newest_none es)) ∙ range
range_before es (Some l) range = (and_parts (in_range l) (every in_range (newest es)) (ap (every in_range) (sym (newest_some es l)) ∙ range)).1

-- the last person of those laid
module _ (f : Forest) (some : 0 < length (laid f)) where
  -- how many are laid before it, and their links, the last one first
  abbrev last : ℕ
  last = f.count - 1

  abbrev before : List (ℕ × ℕ)
  before = newest (first_entries last f.ties)

  one : last + 1 ≡ f.count
  one = omega (arith, persons_laid f)

  entries_last : laid f ≡ first_entries last f.ties ++ entry (get_or f.ties last None) ∷ []
  entries_last = let k = f.kept in ap (λ n. first_entries n f.ties) (sym one) ∙ map_more entry f.ties last None (omega (arith, one))

  range_left : every in_range before ≡ true
  range_left = range_before (first_entries last f.ties) _ (ap (λ es. every in_range (newest es)) (sym entries_last) ∙ f.kept.range)

  -- the memory without it, once the parents are those before it
  pub memory_less : (parent : List ℕ) → parent ≡ parents before → Memory parent f.ties last
  memory_less parent grown =
      let k = f.kept in record {
        kept = record { long = k.long; few = omega arith; range = range_left };
        grown = grown;
        undone = λ p t h e. f.undone p t (omega arith) e;
      }

  -- it tied nothing
  pub grown_none : get_or f.ties last None ≡ None → f.parent ≡ parents before
  grown_none e =
      f.grown ∙ ap (λ es. parents (newest es)) (entries_last ∙ ap (λ t. first_entries last f.ties ++ entry t ∷ []) e) ∙ ap parents (newest_none (first_entries last f.ties))

  -- the root that its tie hung
  module _ (t : Tie) (is : get_or f.ties last None ≡ Some t) where
    linked : newest (laid f) ≡ t.slots ∷ before
    linked = ap newest (entries_last ∙ ap (λ u. first_entries last f.ties ++ entry u ∷ []) is) ∙ newest_some (first_entries last f.ties) t.slots

    hung : t.hung ≡ hung_by before t.slots
    hung = f.undone last t (omega (arith, one)) is

    pub hung_below : t.hung < 64
    hung_below = omega (arith, hung, hung_by_below t.slots before (ap (every in_range) (sym linked) ∙ f.kept.range))

    pub grown_root : set f.parent t.hung t.hung ≡ parents before
    grown_root =
        ap₂ (set f.parent) hung hung
        ∙ ap (λ ps. set ps (hung_by before t.slots) (hung_by before t.slots)) (f.grown ∙ ap parents linked)
        ∙ parents_back t.slots before range_left
