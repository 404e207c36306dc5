-- The proofs that two panels and a mask keep the rules of a reading model if the models below them do.
use Rattle.std.specs.Prelude.{◌≡◌, ℕ, ◌-◌, ◌≤◌, min, max, Bool, true, false, if◌then◌else◌, ◌&&◌, ◌||◌, ◌==◌, ◌≢◌, nat_lt, refl}
use Rattle.std.proofs.Common.{arith}
use Rattle.std.proofs.lemmas.Bool.Decides.{nat_tests}
use Rattle.readings.specs.declared.class.Class.{Class}
use Rattle.readings.specs.declared.class.Class.TheVariants.{Silent, Named}
use Rattle.readings.specs.Model.{Rules}
use Rattle.readings.specs.Combined.{panels_class, panels_fits, masked_class, masked_fits}

-- what the rules ask of the reading of one person at one locus
record ReadingRules (class : Class) (fits : ℕ → ℕ → Bool) : Type 0 where
  unordered : (x y : ℕ) → fits x y ≡ fits y x
  silent : (x y : ℕ) → class ≡ Silent → fits x y ≡ true
  ordered : (a b : ℕ) → class ≡ Named a b → a ≤ b
  named : (a b x y : ℕ) → class ≡ Named a b → fits x y ≡ (min x y == a && max x y == b)

one : (class : ℕ → ℕ → Class) (fits : ℕ → ℕ → ℕ → ℕ → Bool) → Rules class fits → (locus person : ℕ) → ReadingRules (class locus person) (fits locus person)
one class fits r locus person = record {
  unordered = r.unordered locus person;
  silent = r.silent locus person;
  ordered = r.ordered locus person;
  named = r.named locus person;
}

never_named : (a b : ℕ) → Silent ≢ Named a b
never_named a b e = cc

nothing_read : ReadingRules Silent (λ x y. true)
nothing_read = record {
  unordered = λ x y. refl;
  silent = λ x y e. refl;
  ordered = λ a b e. absurd (never_named a b e);
  named = λ a b x y e. absurd (never_named a b e);
}

-- of two readings the one that a test picks
picked : (t : Bool) (c d : Class) (f g : ℕ → ℕ → Bool) → ReadingRules c f → ReadingRules d g → ReadingRules (if t then c else d) (λ x y. if t then f x y else g x y)
picked true c d f g first second = first
picked false c d f g first second = second

-- a reading that a test silences
hidden : (t : Bool) (c : Class) (f : ℕ → ℕ → Bool) → ReadingRules c f → ReadingRules (if t then Silent else c) (λ x y. t || f x y)
hidden true c f below = nothing_read
hidden false c f below = below

still_silent : (t : Bool) (c d : Class) → c ≡ Silent → d ≡ Silent → (if t then c else d) ≡ Silent
still_silent true c d p q = p
still_silent false c d p q = q

module _ (n : ℕ) (c : ℕ → ℕ → Class) (f : ℕ → ℕ → ℕ → ℕ → Bool) (d : ℕ → ℕ → Class) (g : ℕ → ℕ → ℕ → ℕ → Bool) (first : Rules c f) (second : Rules d g) where
  panel : (locus person : ℕ) → ReadingRules (panels_class n c d locus person) (panels_fits n f g locus person)
  panel locus person =
      picked (nat_lt locus 8) _ Silent _ (λ x y. true) (picked (nat_lt locus n) (c locus person) (d (locus - n) person) (f locus person) (g (locus - n) person) (one c f first locus person) (one d g second (locus - n) person)) nothing_read

  pub panels_rules : Rules (panels_class n c d) (panels_fits n f g)
  panels_rules = record {
    unordered = λ locus person. (panel locus person).unordered;
    silent = λ locus person. (panel locus person).silent;
    ordered = λ locus person. (panel locus person).ordered;
    named = λ locus person. (panel locus person).named;
    far_locus = λ locus person h. grind (arith, nat_tests);
    far_person = λ locus person h.
        still_silent (nat_lt locus 8) _ Silent (still_silent (nat_lt locus n) (c locus person) (d (locus - n) person) (first.far_person locus person h) (second.far_person (locus - n) person h)) refl;
  }

module _ (S : ℕ → Bool) (c : ℕ → ℕ → Class) (f : ℕ → ℕ → ℕ → ℕ → Bool) (below : Rules c f) where
  reading : (locus person : ℕ) → ReadingRules (masked_class S c locus person) (masked_fits S f locus person)
  reading locus person = hidden (S person) (c locus person) (f locus person) (one c f below locus person)

  pub masked_rules : Rules (masked_class S c) (masked_fits S f)
  masked_rules = record {
    unordered = λ locus person. (reading locus person).unordered;
    silent = λ locus person. (reading locus person).silent;
    ordered = λ locus person. (reading locus person).ordered;
    named = λ locus person. (reading locus person).named;
    far_locus = λ locus person h. still_silent (S person) Silent (c locus person) refl (below.far_locus locus person h);
    far_person = λ locus person h. still_silent (S person) Silent (c locus person) refl (below.far_person locus person h);
  }
