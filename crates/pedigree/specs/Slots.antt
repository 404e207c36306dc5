-- Founder slots: which two slots each person of a family holds under the meiosis bits of a locus. Assumes nothing.
-- Words: taken (the slot of a parent that a bit takes), slots_of (the slots of all persons, worked out in their order),
-- Descent (the law of descent that they keep), SlotsBelow (every slot is below a number).
use Rattle.std.specs.Prelude.{◌≡◌, ℕ, ◌+◌, ◌*◌, ◌<◌, Bool, true, false, List, [], ◌∷◌, ◌++◌, length, take, slice_index_or}
use Rattle.pedigree.specs.declared.persons.Meiosis.{Meiosis}
use Rattle.pedigree.specs.declared.persons.Person.{Person}
use Rattle.pedigree.specs.declared.persons.Person.TheVariants.{Founder, Child}
use Rattle.pedigree.specs.Families.{founders_in, person_at, ParentsFirst}
use Rattle.pedigree.specs.Meioses.{straight}

-- of a parent's two slots, told maternal first, the maternal one at bit 0 and the paternal one at bit 1
abbrev pub taken : Bool → ℕ × ℕ → ℕ
taken false parent = parent.0
taken true parent = parent.1

-- the meiosis bits of a person; both are 0 where none are given
abbrev pub bits_at : List Meiosis → ℕ → Meiosis
bits_at bs p = slice_index_or bs p straight

-- the two slots of a person, of those told
abbrev pub slots_at : List (ℕ × ℕ) → ℕ → ℕ × ℕ
slots_at slots p = slice_index_or slots p (0, 0)

-- the two slots of a person behind i founders, from its bits and the slots told of its parents
abbrev pub held_by : ℕ → Meiosis → List (ℕ × ℕ) → Person → ℕ × ℕ
held_by i b slots Founder = (2 * i, 2 * i + 1)
held_by i b slots (Child m f) = (taken b.maternal (slots_at slots m), taken b.paternal (slots_at slots f))

-- the slots told of the persons before, i founders among them, and behind them those of the persons that follow
abbrev pub slots_after : List (ℕ × ℕ) → ℕ → List Person → List Meiosis → List (ℕ × ℕ)
slots_after before i [] bs = before
slots_after before i (x ∷ xs) bs = slots_after (before ++ held_by i (bits_at bs (length before)) before x ∷ []) (i + founders_in (x ∷ [])) xs bs

-- the slots of all persons, in their order
abbrev pub slots_of : List Person → List Meiosis → List (ℕ × ℕ)
slots_of ps bs = slots_after [] 0 ps bs

-- The law of descent. Every person has two slots. The founder with i founders before it has the slots 2i and 2i + 1.
-- A child's maternal slot is one of its mother's, its paternal slot one of its father's, each as the side's bit says.
pub record Descent (ps : List Person) (bs : List Meiosis) (slots : List (ℕ × ℕ)) : Type 0 where
  pub all : length slots ≡ length ps
  pub founder : (p : ℕ) → p < length ps → person_at ps p ≡ Founder → slots_at slots p ≡ (2 * founders_in (take p ps), 2 * founders_in (take p ps) + 1)
  pub child : (p m f : ℕ) → person_at ps p ≡ Child m f → slots_at slots p ≡ (taken (bits_at bs p).maternal (slots_at slots m), taken (bits_at bs p).paternal (slots_at slots f))

-- every slot told is below n
abbrev pub SlotsBelow : ℕ → List (ℕ × ℕ) → Type 0
SlotsBelow n slots = (p : ℕ) → p < length slots → ((slots_at slots p).0 < n) × ((slots_at slots p).1 < n)

-- in every family whose parents come first, the slots worked out keep the law of descent, and are founder slots
abbrev pub DescentStands : Type 0
DescentStands = (ps : List Person) (bs : List Meiosis) → ParentsFirst ps → Descent ps bs (slots_of ps bs) × SlotsBelow (2 * founders_in ps) (slots_of ps bs)

-- in every family whose parents come first, the bits settle the slots: no two tellings keep the law of descent
abbrev pub DescentSettled : Type 0
DescentSettled = (ps : List Person) (bs : List Meiosis) (s t : List (ℕ × ℕ)) → ParentsFirst ps → Descent ps bs s → Descent ps bs t → s ≡ t
