-- What holds of the locus that slots held by persons and a model give.
-- Assumes nothing.
use Rattle.std.proofs.Common.{◌≡◌, ℕ, ◌+◌, ◌<◌, Bool, true, false, List, map, length, get_or, sym, ap, ◌∙◌, subst, arith}
use Rattle.std.specs.List.{range_with_len}
use Rattle.std.proofs.lemmas.List.{get_or-take, length-take-le}
use Rattle.pedigree.specs.Slots.{slots_at}
use Rattle.readings.specs.declared.class.Class.{Class}
use Rattle.readings.specs.Model.{Rules}
use Rattle.figures.specs.Lists.{kept, In}
use Rattle.figures.specs.Locus.{Reading, loud}
use Rattle.figures.specs.Graph.{Sound, links}
use Rattle.figures.specs.View.{reading_of, readings_of}
use Rattle.figures.proofs.Members.{in_map, map_in, kept_in, in_counting, counting_in}
use Rattle.sums.specs.Gathering.{follow, reached}
use Rattle.sums.specs.Seen.{told, seen}
use Rattle.sums.specs.declared.slots.Held.{Held}
use Rattle.sums.proofs.Reaching.{links_silent, reached_loud}

module _ (h : Held) (class : ℕ → Class) (fits : ℕ → ℕ → ℕ → Bool) where
  pub told_length : length (told h) ≡ h.persons
  told_length = length-take-le h.persons h.pairs (omega (arith, h.within.0, h.within.1))

  pub told_at : (p : ℕ) → p < h.persons → slots_at (told h) p ≡ get_or h.pairs p (0, 0)
  told_at p l = get_or-take h.persons h.pairs p (0, 0) l

  -- a reading is that of a person
  pub reading_in : (r : Reading) → In r (readings_of (told h) class fits) → (p : ℕ) × (p < h.persons) × (r ≡ reading_of (told h) class fits p)
  reading_in r i =
      let m = map_in (reading_of (told h) class fits) r (range_with_len 0 (length (told h))) i in
      let b = counting_in 0 (length (told h)) m.0 m.1 in
      (m.0, omega (arith, told_length), m.2)

  pub in_reading : (p : ℕ) → p < h.persons → In (reading_of (told h) class fits p) (readings_of (told h) class fits)
  in_reading p l =
      in_map (reading_of (told h) class fits) p (range_with_len 0 (length (told h))) (in_counting 0 (length (told h)) p (omega arith) (omega (arith, told_length)))

  pub ends_within : (r : Reading) → In r (readings_of (told h) class fits) → (r.ends.0 < h.slots) × (r.ends.1 < h.slots)
  ends_within r i =
      let q = reading_in r i in
      subst (λ (e : ℕ × ℕ). (e.0 < h.slots) × (e.1 < h.slots)) (sym (ap (λ x. x.ends) q.2 ∙ told_at q.0 q.1)) (h.within.3 q.0 q.1)

  pub links_within : (a b : ℕ) → In (a, b) (links (readings_of (told h) class fits)) → (a < h.slots) × (b < h.slots)
  links_within a b i =
      let m = map_in (λ r. r.ends) (a, b) (kept (λ r. loud r.class) (readings_of (told h) class fits)) i in
      let q = kept_in (λ r. loud r.class) m.0 (readings_of (told h) class fits) m.1 in
      subst (λ (e : ℕ × ℕ). (e.0 < h.slots) × (e.1 < h.slots)) (sym m.2) (ends_within m.0 q.1)

pub seen_sound : (h : Held) (k : ℕ) (locus : ℕ) (class : ℕ → ℕ → Class) (fits : ℕ → ℕ → ℕ → ℕ → Bool) → Rules class fits → Sound (seen h k (class locus) (fits locus))
seen_sound h k locus class fits rules = record {
  within = ends_within h (class locus) (fits locus);
  silent = λ r a b i e.
      let q = reading_in h (class locus) (fits locus) r i in
      ap (λ x. x.fits a b) q.2 ∙ rules.silent locus q.0 a b (sym (ap (λ x. x.class) q.2) ∙ e);
  named = λ r a b x y i e.
      let q = reading_in h (class locus) (fits locus) r i in
      ap (λ z. z.fits x y) q.2 ∙ rules.named locus q.0 a b x y (sym (ap (λ z. z.class) q.2) ∙ e);
}

module _ (h : Held) (class : ℕ → Class) (fits : ℕ → ℕ → ℕ → Bool) (i s : ℕ) (ss found after : List ℕ) where
  pub reach_loud : loud (class i) ≡ true → found ≡ reached (links (map (reading_of (told h) class fits) (range_with_len 0 i))) s ss → after ≡ follow s found (slots_at (told h) i) → after ≡ reached (links (map (reading_of (told h) class fits) (range_with_len 0 (i + 1)))) s ss
  reach_loud e p q = q ∙ ap (λ xs. follow s xs (slots_at (told h) i)) p ∙ reached_loud (reading_of (told h) class fits) i s ss e

  pub reach_silent : loud (class i) ≡ false → found ≡ reached (links (map (reading_of (told h) class fits) (range_with_len 0 i))) s ss → found ≡ reached (links (map (reading_of (told h) class fits) (range_with_len 0 (i + 1)))) s ss
  reach_silent e p = p ∙ ap (λ ls. reached ls s ss) (sym (links_silent (reading_of (told h) class fits) i e))
