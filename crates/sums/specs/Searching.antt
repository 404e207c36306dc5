-- A search over the alleles of slots: those set so far, and whether they fit.
-- Assumes nothing.
use Rattle.std.specs.Prelude.{◌≡◌, ℕ, ◌<◌, Bool, true, not, ◌||◌, List, ◌++◌, is_some, Some, None, Option, ◌==◌, slice_index_or}
use Rattle.std.specs.Option.{unwrap_or}
use Rattle.figures.specs.Graph.{own}
use Rattle.figures.specs.Lists.{every, In, Once}
use Rattle.figures.specs.Locus.{Reading}
use Rattle.figures.proofs.Placed.{fits_at}
use Rattle.sums.specs.declared.slots.Held.{Held}

-- the allele of a slot, 0 where none is set
abbrev pub env : List (Option ℕ) → ℕ → ℕ
env alleles t = unwrap_or (slice_index_or alleles t None) 0

-- the slot's allele is set
abbrev pub is_set : List (Option ℕ) → ℕ → Bool
is_set alleles t = is_some (slice_index_or alleles t None)

-- the two alleles fit, where both are set
abbrev pub agrees : (ℕ → ℕ → Bool) → Option ℕ → Option ℕ → Bool
agrees fit (Some a) (Some b) = fit a b
agrees fit (Some a) None = true
agrees fit None b = true

-- the two slots of a person
abbrev pub pair_of : Held → ℕ → ℕ × ℕ
pair_of h p = slice_index_or h.pairs p (0, 0)

-- the reading of person p fits the alleles set so far, where the slot set last is one of its two
abbrev pub passes_at : Held → (ℕ → ℕ → ℕ → Bool) → List (Option ℕ) → ℕ → ℕ → Bool
passes_at h fits alleles slot p =
    not ((pair_of h p).0 == slot || (pair_of h p).1 == slot) || agrees (fits p) (slice_index_or alleles (pair_of h p).0 None) (slice_index_or alleles (pair_of h p).1 None)

-- the alleles of exactly the slots done are set, none of them among the slots left, and fit all readings of which both slots are set
pub record Searching (h : Held) (fits : ℕ → ℕ → ℕ → Bool) (done left : List ℕ) (alleles : List (Option ℕ)) : Type 0 where
  pub once : Once (done ++ left)
  pub set : (t : ℕ) → In t done → is_set alleles t ≡ true
  pub only : (t : ℕ) → is_set alleles t ≡ true → In t done
  pub fitting : (p : ℕ) → p < h.persons → agrees (fits p) (slice_index_or alleles (pair_of h p).0 None) (slice_index_or alleles (pair_of h p).1 None) ≡ true

-- both slots of the order's own readings stand in the order
abbrev pub Inside : List ℕ → List Reading → Type 0
Inside order rs = (r : Reading) → In r (own order rs) → In r.ends.0 order × In r.ends.1 order

-- the alleles fit the order's own readings
abbrev pub fits_order : List ℕ → List Reading → (ℕ → ℕ) → Bool
fits_order order rs σ = every (fits_at σ) (own order rs)
