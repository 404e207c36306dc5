-- How a layer and a refusal are printed. Assumes nothing.
use Rattle.std.specs.Prelude.{ℕ, List, ◌++◌, codes, decimal}
use Rattle.refusal.specs.declared.Layer.{Layer}
use Rattle.refusal.specs.declared.Layer.TheVariants.{Family, Readings, Desk, Text}
use Rattle.refusal.specs.declared.Refusal.{Refusal}

-- the name of a layer
abbrev pub layer_name : Layer → List ℕ
layer_name Family = codes "family"
layer_name Readings = codes "readings"
layer_name Desk = codes "desk"
layer_name Text = codes "text"

-- the number, the place and the layer, with a space between
abbrev pub refusal_text : Refusal → List ℕ
refusal_text r = decimal r.number ++ codes " " ++ decimal r.place ++ codes " " ++ layer_name r.layer
