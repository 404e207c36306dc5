-- The meiosis bits of a child: the bit of a side, and the bits with one of them turned. Assumes nothing.
use Rattle.std.specs.Prelude.{Bool, false, not}
use Rattle.pedigree.specs.declared.persons.Meiosis.{Meiosis}
use Rattle.pedigree.specs.declared.persons.Side.{Side}
use Rattle.pedigree.specs.declared.persons.Side.TheVariants.{Maternal, Paternal}

-- the bits of a maternal and a paternal side
abbrev pub meiosis_of : Bool → Bool → Meiosis
meiosis_of m f = record { maternal = m; paternal = f }

-- both bits 0: each side holds its parent's maternal slot
abbrev pub straight : Meiosis
straight = meiosis_of false false

-- the bit of a side
abbrev pub bit_of : Meiosis → Side → Bool
bit_of b Maternal = b.maternal
bit_of b Paternal = b.paternal

-- the bits with that of one side turned, and the other as it was
abbrev pub turned_at : Meiosis → Side → Meiosis
turned_at b Maternal = meiosis_of (not b.maternal) b.paternal
turned_at b Paternal = meiosis_of b.maternal (not b.paternal)
