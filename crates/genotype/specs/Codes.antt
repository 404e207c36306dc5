-- Genotype codes: the place of an unordered pair of alleles in the genotype order of the VCF specification, F(a/b) = b(b+1)/2 + a for a ≤ b.
use Rattle.std.specs.Prelude.{ℕ, zero, suc, ◌+◌, ◌*◌, ◌/◌, min, max, if◌then◌else◌, Some, None, Option, nat_le, nat_lt}

-- how many pairs have both alleles below b: b(b+1)/2
abbrev pub pairs_below : ℕ → ℕ
pairs_below b = (b * (b + 1)) / 2

-- the code of two alleles, in either order; 255 if one of them is above 15
abbrev pub code_of : ℕ → ℕ → ℕ
code_of x y = if nat_le (max x y) 15 then pairs_below (max x y) + min x y else 255

-- the pair that the order lists after a pair (a, b) with a ≤ b: a rises until it is b, then b rises by one and a starts again at 0
abbrev pub next : ℕ × ℕ → ℕ × ℕ
next p = if nat_lt p.0 p.1 then (p.0 + 1, p.1) else (0, p.1 + 1)

-- the order lists (0, 0) first
abbrev pub listed : ℕ → ℕ × ℕ
listed zero = (0, 0)
listed (suc c) = next (listed c)

-- the pair of a code, the smaller allele first; a number above 135 has none
abbrev pub pair_of : ℕ → Option (ℕ × ℕ)
pair_of c = if nat_le c 135 then Some (listed c) else None
