-- The proof that a dominant table keeps the rules of a reading model.
use Rattle.std.specs.Prelude.{◌≡◌, ℕ, Bool, true, false, if◌then◌else◌, not, ◌||◌, List, ◌==◌, ◌≢◌, refl}
use Rattle.std.proofs.Common.{ap, arith}
use Rattle.std.proofs.lemmas.Bool.Decides.{nat_tests}
use Rattle.readings.specs.declared.class.Class.TheVariants.{Silent, Named, Several}
use Rattle.readings.specs.Model.{Rules}
use Rattle.readings.specs.Tables.{byte_at, dominant_class, dominant_fits}
use Rattle.readings.specs.Bytes.{byte_far_locus, byte_far_person}

-- with neither byte, every two alleles fit
silent_fits : (shows hides zero : Bool) → (if shows || hides then Several else Silent) ≡ Silent → (if shows then zero else if hides then not zero else true) ≡ true
silent_fits true hides zero e = let z : ◌≡◌ {A = ℕ} 0 1 = cc in absurd (omega arith)
silent_fits false true zero e = let z : ◌≡◌ {A = ℕ} 0 1 = cc in absurd (omega arith)
silent_fits false false zero e = refl

-- no dominant byte names a pair
never_named : (t : Bool) (a b : ℕ) → (if t then Several else Silent) ≢ Named a b
never_named true a b e = let z : ◌≡◌ {A = ℕ} 0 1 = cc in omega arith
never_named false a b e = let z : ◌≡◌ {A = ℕ} 0 1 = cc in omega arith

unordered : (byte x y : ℕ) → dominant_fits byte x y ≡ dominant_fits byte y x
unordered byte x y = grind (arith, nat_tests)

pub dominant_rules : (table : List ℕ) → Rules (λ locus person. dominant_class (byte_at table locus person)) (λ locus person. dominant_fits (byte_at table locus person))
dominant_rules table = record {
  unordered = λ locus person. unordered (byte_at table locus person);
  silent = λ locus person x y e. silent_fits (byte_at table locus person == 1) (byte_at table locus person == 0) (x == 0 || y == 0) e;
  ordered = λ locus person a b e. absurd (never_named _ a b e);
  named = λ locus person a b x y e. absurd (never_named _ a b e);
  far_locus = λ locus person h. ap dominant_class (byte_far_locus table locus person h);
  far_person = λ locus person h. ap dominant_class (byte_far_person table locus person h);
}
