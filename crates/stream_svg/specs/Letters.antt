-- The letters of slice types, and what stands in their place.
use Rattle.std.specs.Prelude.{ℕ, ◌++◌, Bool, true, false, List, [], ◌∷◌, codes}
use Rattle.stream_svg.specs.declared.unit.UnitKind.{UnitKind}
use Rattle.stream_svg.specs.declared.unit.UnitKind.TheVariants as kinds
use Rattle.stream_svg.specs.declared.unit.SliceTypes.{SliceTypes}
use Rattle.stream_svg.specs.declared.letters.Letter.{Letter}
use Rattle.stream_svg.specs.declared.letters.Letter.TheVariants as letters

-- the class of a letter in the style sheet
abbrev pub class_of : Letter → List ℕ
class_of letters.I = codes "i"
class_of letters.P = codes "p"
class_of letters.B = codes "b"
class_of letters.Fault = codes "f"
class_of letters.Nothing = codes "n"

-- a letter, or the mark in its place
abbrev pub sign_of : Letter → List ℕ
sign_of letters.I = codes "I"
sign_of letters.P = codes "P"
sign_of letters.B = codes "B"
sign_of letters.Fault = codes "!"
sign_of letters.Nothing = codes "-"

-- the letters of slice types, in this order
abbrev pub letters_by : Bool → Bool → Bool → List Letter
letters_by false false false = letters.Nothing ∷ []
letters_by true false false = letters.I ∷ []
letters_by false true false = letters.P ∷ []
letters_by false false true = letters.B ∷ []
letters_by true true false = letters.I ∷ letters.P ∷ []
letters_by true false true = letters.I ∷ letters.B ∷ []
letters_by false true true = letters.P ∷ letters.B ∷ []
letters_by true true true = letters.I ∷ letters.P ∷ letters.B ∷ []

-- the letters of a unit's box
abbrev pub letters_of : UnitKind → List Letter
letters_of (kinds.Picture picture) = letters_by picture.types.intra picture.types.predicted picture.types.bipredicted
letters_of (kinds.Fault fault) = letters.Fault ∷ []
letters_of kinds.Empty = letters.Nothing ∷ []

-- the class of what is written over a unit's box: that of its first letter
abbrev pub first_class : List Letter → List ℕ
first_class [] = codes "n"
first_class (letter ∷ more) = class_of letter
