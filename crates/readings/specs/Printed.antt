-- How the class of a reading is printed. Assumes nothing.
use Rattle.std.specs.Prelude.{ℕ, List, ◌++◌, codes, decimal}
use Rattle.readings.specs.declared.class.Class.{Class}
use Rattle.readings.specs.declared.class.Class.TheVariants.{Silent, Named, Several}

-- its name, and behind a named one its two alleles
abbrev pub class_text : Class → List ℕ
class_text Silent = codes "silent"
class_text (Named a b) = codes "named " ++ decimal a ++ codes " " ++ decimal b
class_text Several = codes "several"
