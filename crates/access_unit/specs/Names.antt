-- The names of refusals.
use Rattle.std.specs.Prelude.{ℕ, List, codes}
use Rattle.access_unit.specs.declared.refused.Refused.{Refused}
use Rattle.access_unit.specs.declared.refused.Refused.TheVariants.{Split, UnitType, ForbiddenBit, Sps, Pps, Switching, MixedIdr, IdrNotIntra, IdrNotReference, MixedReference, UnitOrder, TwoPictures, TooLarge, Memory}

-- the name that is printed
abbrev pub name_of : Refused → List ℕ
name_of Split = codes "Split"
name_of UnitType = codes "UnitType"
name_of ForbiddenBit = codes "ForbiddenBit"
name_of Sps = codes "Sps"
name_of Pps = codes "Pps"
name_of Switching = codes "Switching"
name_of MixedIdr = codes "MixedIdr"
name_of IdrNotIntra = codes "IdrNotIntra"
name_of IdrNotReference = codes "IdrNotReference"
name_of MixedReference = codes "MixedReference"
name_of UnitOrder = codes "UnitOrder"
name_of TwoPictures = codes "TwoPictures"
name_of TooLarge = codes "TooLarge"
name_of Memory = codes "Memory"
