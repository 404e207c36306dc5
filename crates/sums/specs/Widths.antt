-- When a list of slots is too wide to be summed over, and what a figure answers.
-- Assumes nothing.
use Rattle.std.specs.Prelude.{◌≡◌, ℕ, ◌^◌, Bool, true, false, ◌&&◌, List, length, Ok, Err, Result, nat_lt}
use Rattle.std.specs.List.{range_with_len}
use Rattle.algebra.specs.Semiring.{Ops}
use Rattle.algebra.specs.Maps.{Carries}
use Rattle.readings.specs.Combined.{masked_class, masked_fits}
use Rattle.readings.specs.declared.class.Class.{Class}
use Rattle.readings.specs.declared.class.Class.TheVariants.{Silent, Named, Several}
use Rattle.figures.specs.Figure.{figure, excess}
use Rattle.figures.specs.Graph.{Wide, has}
use Rattle.figures.specs.Lists.{some_passes}
use Rattle.figures.specs.Locus.{Locus}
use Rattle.sums.specs.Searching.{pair_of}
use Rattle.sums.specs.Seen.{seen}
use Rattle.sums.specs.declared.locus_figure.WideLocus.{WideLocus}
use Rattle.sums.specs.declared.slots.Held.{Held}

-- the class is several
abbrev pub is_several : Class → Bool
is_several Silent = false
is_several (Named a b) = false
is_several Several = true

-- a person whose reading is of class several has its maternal slot in the list; in a component both slots are then
abbrev pub several_in : Held → (ℕ → Class) → List ℕ → Bool
several_in h class ss = some_passes (λ p. is_several (class p) && has ss (pair_of h p).0) (range_with_len 0 h.persons)

-- such a reading, and more than 65536 assignments of k alleles
abbrev pub too_wide : Held → (ℕ → Class) → ℕ → List ℕ → Bool
too_wide h class k ss = several_in h class ss && nat_lt 65536 (k ^ length ss)

-- a figure is refused exactly where the locus is wide, told with its number; else it is the sum that the rules define
abbrev pub Figured : {V : Type 0} → Ops V → (ℕ → V) → Locus → ℕ → Result V WideLocus → Type 0
Figured o w L locus (Ok v) = (Wide L → ⊥) × (v ≡ figure o w L)
Figured o w L locus (Err e) = Wide L × (e.locus ≡ locus)

-- two figures of one locus, by two algebras
abbrev pub FiguredTwice : {V W : Type 0} → Ops V → Ops W → (ℕ → V) → (ℕ → W) → Locus → ℕ → Result (V × W) WideLocus → Type 0
FiguredTwice o p w u L locus (Ok x) = (Wide L → ⊥) × (x.0 ≡ figure o w L) × (x.1 ≡ figure p u L)
FiguredTwice o p w u L locus (Err e) = Wide L × (e.locus ≡ locus)

-- every map that carries the first algebra to the second carries the first figure to the second
abbrev pub Carried : {V W : Type 0} → Ops V → Ops W → Result (V × W) WideLocus → Type 0
Carried {V} {W} o p (Ok x) = (h : V → W) → Carries o p h → h x.0 ≡ x.1
Carried o p (Err e) = Unit {0}

-- through a mask the locus is seen with the masked persons silenced, so that its figure is the unmasked one with the excess added
abbrev pub ExcessThroughMask : {V : Type 0} → Ops V → Type 0
ExcessThroughMask {V} o =
    (w : ℕ → V) (S : ℕ → Bool) (h : Held) (k locus : ℕ) (class : ℕ → ℕ → Class) (fits : ℕ → ℕ → ℕ → ℕ → Bool) → figure o w (seen h k (masked_class S class locus) (masked_fits S fits locus)) ≡ o.sum (figure o w (seen h k (class locus) (fits locus))) (excess o w S (seen h k (class locus) (fits locus)))
