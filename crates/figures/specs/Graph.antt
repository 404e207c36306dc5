-- The founder-allele graph of a locus: its nodes are all founder slots, and each person whose reading is not silent links its two slots.
--   Chain       two slots are joined by links
--   Component   the slots joined to one slot, each once
--   Parts       how many components there are
--   Wide        a component with a reading of class several has more than 65536 assignments
-- Assumes nothing.
use Rattle.std.specs.Prelude.{◌≡◌, ℕ, ◌^◌, ◌<◌, min, max, Bool, true, cond, ◌&&◌, ◌↔◌, List, [], ◌∷◌, map, length, ◌==◌, nat_eq}
use Rattle.std.specs.List.{flat_map}
use Rattle.algebra.specs.Semiring.{Ops}
use Rattle.readings.specs.declared.class.Class.TheVariants.{Silent, Named, Several}
use Rattle.figures.specs.Lists.{fold, every, some_passes, kept, In, Once}
use Rattle.figures.specs.Assignments.{assignments}
use Rattle.figures.specs.Locus.{Locus, Reading, loud}
use Rattle.figures.specs.Figure.{product}

-- the links, in the order of the persons
abbrev pub links : List Reading → List (ℕ × ℕ)
links rs = map (λ r. r.ends) (kept (λ r. loud r.class) rs)

-- joined by links, one after the other, in either direction
pub data Chain (ls : List (ℕ × ℕ)) : ℕ → ℕ → Type 0 where
  same : {s : ℕ} → Chain ls s s
  link : {s t : ℕ} → In (s, t) ls → Chain ls s t
  back : {s t : ℕ} → Chain ls s t → Chain ls t s
  join : {s t u : ℕ} → Chain ls s t → Chain ls t u → Chain ls s u

-- the slots below n that are chained to s
pub record Component (n : ℕ) (ls : List (ℕ × ℕ)) (s : ℕ) (slots : List ℕ) : Type 0 where
  pub once : Once slots
  pub exactly : (t : ℕ) → In t slots ↔ ((t < n) × Chain ls s t)

-- n slots fall into c components: there are c slots, no two of them chained, and every slot is chained to one of them
pub record Parts (n : ℕ) (ls : List (ℕ × ℕ)) (c : ℕ) : Type 0 where
  pub ones : List ℕ
  pub number : length ones ≡ c
  pub once : Once ones
  pub within : (s : ℕ) → In s ones → s < n
  pub apart : (s t : ℕ) → In s ones → In t ones → Chain ls s t → s ≡ t
  pub covered : (s : ℕ) → s < n → (t : ℕ) × In t ones × Chain ls s t

-- some component has a reading of class several, and more than 65536 assignments
pub record Wide (L : Locus) : Type 0 where
  pub slot : ℕ
  pub within : slot < L.slots
  pub slots : List ℕ
  pub component : Component L.slots (links L.readings) slot slots
  pub reading : Reading
  pub read : In reading L.readings
  pub several : reading.class ≡ Several
  pub inside : Chain (links L.readings) slot reading.ends.0
  pub many : 65536 < L.alleles ^ length slots

-- what the readings of a locus keep: their slots are slots of the locus, a silent reading fits every two alleles, and a named one its pair alone
pub record Sound (L : Locus) : Type 0 where
  pub within : (r : Reading) → In r L.readings → (r.ends.0 < L.slots) × (r.ends.1 < L.slots)
  pub silent : (r : Reading) (a b : ℕ) → In r L.readings → r.class ≡ Silent → r.fits a b ≡ true
  pub named : (r : Reading) (a b x y : ℕ) → In r L.readings → r.class ≡ Named a b → r.fits x y ≡ (min x y == a && max x y == b)

-- the components of a locus: each list is the component of one of its slots, and every slot stands in exactly one of them
pub record Components (L : Locus) (cs : List (List ℕ)) : Type 0 where
  pub each : (c : List ℕ) → In c cs → (s : ℕ) × In s c × Component L.slots (links L.readings) s c
  pub once : Once (flat_map (λ c. c) cs)
  pub all : (s : ℕ) → s < L.slots → In s (flat_map (λ c. c) cs)

-- the slot stands in the list
abbrev pub has : List ℕ → ℕ → Bool
has ss s = some_passes (nat_eq s) ss

-- the allele that an assignment of the listed slots gives to slot s
abbrev pub allele_at : List ℕ → List ℕ → ℕ → ℕ
allele_at [] ρ s = 0
allele_at (t ∷ ts) [] s = 0
allele_at (t ∷ ts) (a ∷ ρ) s = let rest = allele_at ts ρ s in cond (s == t) a rest

-- the readings that are not silent and have their maternal slot in the list; in a component both slots are then
abbrev pub own : List ℕ → List Reading → List Reading
own ss rs = kept (λ r. loud r.class && has ss r.ends.0) rs

-- the assignment of the listed slots fits their own readings
abbrev pub fits_own : List ℕ → List Reading → List ℕ → Bool
fits_own ss rs ρ = every (λ r. r.fits (allele_at ss ρ r.ends.0) (allele_at ss ρ r.ends.1)) (own ss rs)

-- the sum of a component: of the products over the assignments of its own slots that fit its own readings
abbrev pub component_sum : {V : Type 0} → Ops V → (ℕ → V) → Locus → List ℕ → V
component_sum o w L ss =
    fold o.zero o.sum (kept (fits_own ss L.readings) (assignments (length ss) L.alleles)) (product o w)
