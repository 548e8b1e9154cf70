-- The numbers of the faults: the order in which they are looked for.
use Rattle.std.specs.Prelude.{ℕ}
use Rattle.unit_outcomes.specs.declared.validity_fault.ValidityFault.{ValidityFault}
use Rattle.unit_outcomes.specs.declared.validity_fault.ValidityFault.TheVariants.{MissingPps, MissingSps, HeaderCut, HeaderValue, Redundant, SliceOrder, SliceMismatch, NoIdr, SpsChange, IdrFrameNum, FrameNumGap, FrameNumRepeat, OrderRange, OrderTie, NoReference, BadModification, BadMarking, TooManyReferences}

-- the number that stands for a fault
abbrev pub number_of : ValidityFault → ℕ
number_of MissingPps = 1
number_of MissingSps = 2
number_of HeaderCut = 3
number_of HeaderValue = 4
number_of Redundant = 5
number_of SliceOrder = 6
number_of SliceMismatch = 7
number_of NoIdr = 8
number_of SpsChange = 9
number_of IdrFrameNum = 10
number_of FrameNumGap = 11
number_of FrameNumRepeat = 12
number_of OrderRange = 13
number_of OrderTie = 14
number_of NoReference = 15
number_of BadModification = 16
number_of BadMarking = 17
number_of TooManyReferences = 18
