-- The proof that a codominant table keeps the rules of a reading model.
use Rattle.std.specs.Prelude.{◌≡◌, ℕ, ◌<◌, ◌≤◌, min, max, ◌&&◌, ◌||◌, List, Some, None, Option, ◌==◌, nat_lt}
use Rattle.std.proofs.Math.Nat.{min_comm, max_comm}
use Rattle.std.proofs.lemmas.Bool.Decides.{nat_tests}
use Rattle.std.proofs.Common.{ap, ap₂, ◌∙◌, arith}
use Rattle.std.proofs.lemmas.Bool.{lt-ltb, or_left}
use Rattle.genotype.specs.Codes.{code_of, pair_of}
use Rattle.genotype.proofs.Order.{pair_is, code_is}
use Rattle.readings.specs.declared.class.Class.TheVariants.{Silent, Named}
use Rattle.readings.specs.Model.{Rules}
use Rattle.readings.specs.Tables.{byte_at, named_by, codominant_class, codominant_fits}
use Rattle.readings.specs.Bytes.{byte_far_locus, byte_far_person}

code_unordered : (x y : ℕ) → code_of x y ≡ code_of y x
code_unordered x y = rw (max_comm x y, min_comm x y)

-- a byte that is silent is no code
no_code : (byte : ℕ) → codominant_class byte ≡ Silent → 135 < byte
no_code byte e = grind (arith, nat_tests)

-- a byte that is named is the code of its pair
pair_of_named : (o : Option (ℕ × ℕ)) (a b : ℕ) → named_by o ≡ Named a b → o ≡ Some (a, b)
pair_of_named (Some p) a b e = let x : p.0 ≡ a = cc in let y : p.1 ≡ b = cc in ap₂ (λ (m n : ℕ). Some (m, n)) x y
pair_of_named None a b e = cc

-- two alleles fit a named byte exactly if they are its pair
fits_named : (byte a b x y : ℕ) → pair_of byte ≡ Some (a, b) → codominant_fits byte x y ≡ (min x y == a && max x y == b)
fits_named byte a b x y e = grind (arith, nat_tests, there, back)
  where
    is : (byte ≤ 135) × (a ≤ b) × (b ≤ 15) × (code_of a b ≡ byte)
    is = pair_is byte a b e

    there : code_of x y ≡ byte → (min x y ≡ a) × (max x y ≡ b)
    there t =
        let pair : pair_of byte ≡ Some (min x y, max x y) = code_is x y byte t is.0 in
        let same : (min x y, max x y) ≡ (a, b) = cc in
        (ap (λ (p : ℕ × ℕ). p.0) same, ap (λ (p : ℕ × ℕ). p.1) same)

    back : min x y ≡ a → max x y ≡ b → code_of x y ≡ byte
    back p q =
        let smaller : min x y ≡ min a b = omega arith in
        let larger : max x y ≡ max a b = omega arith in
        let same : code_of x y ≡ code_of a b = rw (smaller, larger) in
        same ∙ is.3

pub codominant_rules : (table : List ℕ) → Rules (λ locus person. codominant_class (byte_at table locus person)) (λ locus person. codominant_fits (byte_at table locus person))
codominant_rules table = record {
  unordered = λ locus person x y. ap (λ c. nat_lt 135 (byte_at table locus person) || c == byte_at table locus person) (code_unordered x y);
  silent = λ locus person x y e. or_left _ _ (lt-ltb 135 (byte_at table locus person) (no_code (byte_at table locus person) e));
  ordered = λ locus person a b e. (pair_is (byte_at table locus person) a b (pair_of_named _ a b e)).1;
  named = λ locus person a b x y e. fits_named (byte_at table locus person) a b x y (pair_of_named _ a b e);
  far_locus = λ locus person h. ap codominant_class (byte_far_locus table locus person h);
  far_person = λ locus person h. ap codominant_class (byte_far_person table locus person h);
}
