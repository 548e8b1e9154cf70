-- The numbers of refusals.
use Rattle.std.specs.Prelude.{ℕ}
use Rattle.access_unit.specs.declared.refused.Refused.{Refused}
use Rattle.access_unit.specs.declared.refused.Refused.TheVariants.{Split, UnitType, ForbiddenBit, Sps, Pps, Switching, MixedIdr, IdrNotIntra, IdrNotReference, MixedReference, UnitOrder, TwoPictures, TooLarge, Memory}

-- the number that stands for a refusal; 12 stands for none
abbrev pub number_of : Refused → ℕ
number_of Split = 1
number_of UnitType = 2
number_of ForbiddenBit = 3
number_of Sps = 4
number_of Pps = 5
number_of Switching = 6
number_of MixedIdr = 7
number_of IdrNotIntra = 8
number_of IdrNotReference = 9
number_of MixedReference = 10
number_of UnitOrder = 11
number_of TwoPictures = 13
number_of TooLarge = 14
number_of Memory = 15
