-- Which numbers may be read at a locus, and where the reading of a person stands. Assumes nothing.
use Rattle.std.specs.Prelude.{ℕ, ◌+◌, ◌*◌, ◌/◌, Bool, cond, ◌||◌, List, [], length, ◌==◌, nat_lt, slice_index_or}
use Rattle.study.specs.declared.loci.Kind.{Kind}
use Rattle.study.specs.declared.loci.Kind.TheVariants.{Codominant, Dominant}

-- the place of a person's reading at a locus, with 64 persons to a locus
abbrev pub place_of : ℕ → ℕ → ℕ
place_of l p = 64 * l + p

-- how many genotypes k alleles have; their codes are the numbers below
abbrev pub genotypes : ℕ → ℕ
genotypes k = k * (k + 1) / 2

-- the kind of locus l of a panel, whose first n loci are codominant
abbrev pub kind_of : ℕ → ℕ → Kind
kind_of n l = cond (nat_lt l n) Codominant Dominant

-- whether a locus of k alleles has a number: any locus 255, a codominant one the codes of its genotypes, a dominant one 0 and 1
abbrev pub kind_has : Kind → ℕ → ℕ → Bool
kind_has Codominant k g = g == 255 || nat_lt g (genotypes k)
kind_has Dominant k g = g == 255 || nat_lt g 2

-- whether locus l of a panel, whose first n loci are codominant, has a number
abbrev pub has_number : List (List ℕ) → ℕ → ℕ → ℕ → Bool
has_number loci n l g = kind_has (kind_of n l) (length (slice_index_or loci l [])) g
