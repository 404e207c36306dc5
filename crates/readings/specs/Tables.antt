-- Reading tables, one byte for each person at each locus, and what a byte says of the person's two alleles.
use Rattle.std.specs.Prelude.{ℕ, ◌+◌, ◌*◌, Bool, true, if◌then◌else◌, not, ◌&&◌, ◌||◌, List, Some, None, Option, ◌==◌, nat_lt, slice_index_or}
use Rattle.genotype.specs.Codes.{code_of, pair_of}
use Rattle.readings.specs.declared.class.Class.{Class}
use Rattle.readings.specs.declared.class.Class.TheVariants.{Silent, Named, Several}

-- the byte of a person at a locus: byte 64l + p of the table for locus l below 8 and person p below 64; 255 elsewhere and past the table's end
abbrev pub byte_at : List ℕ → ℕ → ℕ → ℕ
byte_at table locus person = if nat_lt locus 8 && nat_lt person 64 then slice_index_or table (64 * locus + person) 255 else 255

-- the class of a byte by the pair that it codes: named, or silent if it codes none
abbrev pub named_by : Option (ℕ × ℕ) → Class
named_by (Some p) = Named p.0 p.1
named_by None = Silent

-- codominant: a genotype code names its pair, any other byte is silent
abbrev pub codominant_class : ℕ → Class
codominant_class byte = named_by (pair_of byte)

-- codominant: two alleles fit their own code, and any byte that is no code
abbrev pub codominant_fits : ℕ → ℕ → ℕ → Bool
codominant_fits byte x y = nat_lt 135 byte || code_of x y == byte

-- dominant: 1 (allele 0 shows) and 0 (allele 0 hides) each leave several pairs, any other byte is silent
abbrev pub dominant_class : ℕ → Class
dominant_class byte = if byte == 1 || byte == 0 then Several else Silent

-- dominant: with 1 at least one allele is allele 0, with 0 neither is; any other byte fits every two alleles
abbrev pub dominant_fits : ℕ → ℕ → ℕ → Bool
dominant_fits byte x y = if byte == 1 then x == 0 || y == 0 else if byte == 0 then not (x == 0 || y == 0) else true
