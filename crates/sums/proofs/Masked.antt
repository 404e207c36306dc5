-- What is seen through a mask.
-- Assumes nothing.
use Rattle.std.proofs.Common.{◌≡◌, ℕ, ◌≤◌, Bool, List, [], ◌∷◌, map, length, get_or, refl, ap, ◌∙◌}
use Rattle.std.specs.List.{range_with_len, AllByRecursion}
use Rattle.std.proofs.ByRecursion.{All-from_get_or, All-take}
use Rattle.algebra.specs.Semiring.{Ops, Laws}
use Rattle.readings.specs.Combined.{masked_class, masked_fits}
use Rattle.readings.specs.declared.class.Class.{Class}
use Rattle.figures.specs.Figure.{figure}
use Rattle.figures.specs.Locus.{silence, silenced}
use Rattle.figures.specs.View.{reading_of}
use Rattle.figures.proofs.Silencing.{excess_added}
use Rattle.sums.specs.Seen.{told, seen, alleles_of}
use Rattle.sums.specs.Widths.{ExcessThroughMask}
use Rattle.sums.specs.declared.slots.Held.{Held}

module _ (S : ℕ → Bool) (slots : List (ℕ × ℕ)) (locus : ℕ) (class : ℕ → ℕ → Class) (fits : ℕ → ℕ → ℕ → ℕ → Bool) where
  silenced_readings : (ps : List ℕ) → map (reading_of slots (masked_class S class locus) (masked_fits S fits locus)) ps ≡ map (silence S) (map (reading_of slots (class locus) (fits locus)) ps)
  silenced_readings [] = refl
  silenced_readings (p ∷ ps) = ap (λ rs. reading_of slots (masked_class S class locus) (masked_fits S fits locus) p ∷ rs) (silenced_readings ps)

pub seen_masked : (S : ℕ → Bool) (h : Held) (k locus : ℕ) (class : ℕ → ℕ → Class) (fits : ℕ → ℕ → ℕ → ℕ → Bool) → seen h k (masked_class S class locus) (masked_fits S fits locus) ≡ silenced S (seen h k (class locus) (fits locus))
seen_masked S h k locus class fits = λ i. record {
  slots = h.slots;
  alleles = k;
  readings = silenced_readings S (told h) locus class fits (range_with_len 0 (length (told h))) i;
}

pub excess_through_mask : {V : Type 0} (o : Ops V) → Laws o → ExcessThroughMask o
excess_through_mask o l w S h k locus class fits =
    ap (figure o w) (seen_masked S h k locus class fits) ∙ excess_added o l w S (seen h k (class locus) (fits locus))

-- costs of 16 bits are costs
pub costs_small : (costs : List ℕ) → ((i : ℕ) → get_or costs i 0 ≤ 65535) → AllByRecursion (λ c. c ≤ 65535) (alleles_of costs)
costs_small costs h = All-take (λ c. c ≤ 65535) 16 costs (All-from_get_or (λ c. c ≤ 65535) costs 0 (λ i l. h i))
