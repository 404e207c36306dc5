-- What is proved of the rules.
-- Assumes nothing.
use Rattle.std.specs.Prelude.{◌≡◌, ℕ, ◌<◌, ◌≤◌, Bool, ◌↔◌, List, length, ◌≢◌}
use Rattle.std.specs.List.{AllByRecursion}
use Rattle.readings.specs.declared.class.Class.TheVariants.{Several}
use Rattle.algebra.specs.Semiring.{Ops}
use Rattle.algebra.specs.Maps.{Carries}
use Rattle.figures.specs.Lists.{fold, kept, In, Once}
use Rattle.figures.specs.Assignments.{assignments}
use Rattle.figures.specs.Locus.{Locus, Reading, silenced}
use Rattle.figures.specs.Figure.{weights, figure, excess}
use Rattle.figures.specs.Graph.{Parts, Component, Components, Sound, links, own, fits_own, component_sum}

-- the assignments listed are exactly the lists of n alleles below k, and none is listed twice
abbrev pub Listed : Type 0
Listed = (n k : ℕ) → ((ρ : List ℕ) → In ρ (assignments n k) ↔ ((length ρ ≡ n) × AllByRecursion (λ a. a < k) ρ)) × Once (assignments n k)

-- a map that carries one algebra to another carries the figure of every locus
abbrev pub FiguresCarried : {V W : Type 0} → Ops V → Ops W → Type 0
FiguresCarried {V} {W} o p =
    (h : V → W) → Carries o p h → (costs : List ℕ) → AllByRecursion (λ c. c ≤ 65535) costs → (L : Locus) → h (figure o (weights o costs) L) ≡ figure p (weights p costs) L

-- silencing persons adds to a figure exactly the excess
abbrev pub ExcessAdded : {V : Type 0} → Ops V → Type 0
ExcessAdded {V} o =
    (w : ℕ → V) (S : ℕ → Bool) (L : Locus) → figure o w (silenced S L) ≡ o.sum (figure o w L) (excess o w S L)

-- the slots below any number, under any links, fall into one number of components, and no second number
abbrev pub PartsSettled : Type 0
PartsSettled =
    (n : ℕ) (ls : List (ℕ × ℕ)) → ((c : ℕ) × Parts n ls c) × ((c d : ℕ) → Parts n ls c → Parts n ls d → c ≡ d)

-- the figure of a locus is the product of the sums of its components
abbrev pub FiguresFactored : {V : Type 0} → Ops V → Type 0
FiguresFactored {V} o =
    (w : ℕ → V) (L : Locus) → Sound L → (cs : List (List ℕ)) → Components L cs → figure o w L ≡ fold o.one o.product cs (component_sum o w L)

-- every locus has its components
abbrev pub ComponentsStand : Type 0
ComponentsStand = (L : Locus) → (cs : List (List ℕ)) × Components L cs

-- a component that has a link and only named readings has at most two fitting assignments
abbrev pub TwoAtMost : Type 0
TwoAtMost =
    (L : Locus) → Sound L → (s : ℕ) (c : List ℕ) → Component L.slots (links L.readings) s c → (link : Reading) → In link (own c L.readings) → ((r : Reading) → In r (own c L.readings) → r.class ≢ Several) → length (kept (fits_own c L.readings) (assignments (length c) L.alleles)) ≤ 2
