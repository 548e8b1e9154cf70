-- The names of faults.
use Rattle.std.specs.Prelude.{ℕ, List, codes}
use Rattle.unit_outcomes.specs.declared.validity_fault.ValidityFault.{ValidityFault}
use Rattle.unit_outcomes.specs.declared.validity_fault.ValidityFault.TheVariants.{MissingPps, MissingSps, HeaderCut, HeaderValue, Redundant, SliceOrder, SliceMismatch, NoIdr, SpsChange, IdrFrameNum, FrameNumGap, FrameNumRepeat, OrderRange, OrderTie, NoReference, BadModification, BadMarking, TooManyReferences}

-- the name that is printed
abbrev pub name_of : ValidityFault → List ℕ
name_of MissingPps = codes "MissingPps"
name_of MissingSps = codes "MissingSps"
name_of HeaderCut = codes "HeaderCut"
name_of HeaderValue = codes "HeaderValue"
name_of Redundant = codes "Redundant"
name_of SliceOrder = codes "SliceOrder"
name_of SliceMismatch = codes "SliceMismatch"
name_of NoIdr = codes "NoIdr"
name_of SpsChange = codes "SpsChange"
name_of IdrFrameNum = codes "IdrFrameNum"
name_of FrameNumGap = codes "FrameNumGap"
name_of FrameNumRepeat = codes "FrameNumRepeat"
name_of OrderRange = codes "OrderRange"
name_of OrderTie = codes "OrderTie"
name_of NoReference = codes "NoReference"
name_of BadModification = codes "BadModification"
name_of BadMarking = codes "BadMarking"
name_of TooManyReferences = codes "TooManyReferences"
