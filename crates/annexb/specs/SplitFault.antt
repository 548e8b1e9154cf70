-- The faults of a text: their numbers, and what each says.
use Rattle.std.specs.Prelude.{ℕ, List, IsFalse}
use Rattle.annexb.specs.declared.fault.SplitFault.{SplitFault}
use Rattle.annexb.specs.declared.fault.SplitFault.TheVariants.{NoStartCode, ForbiddenBytes, EmptyUnit, Memory}
use Rattle.annexb.specs.ByteStream.{HasUnits}
use Rattle.annexb.specs.Faults.{begins_with_start_code, IsFirstForbidden, IsFirstEmpty}

-- the number that stands for a fault
abbrev pub number_of : SplitFault → ℕ
number_of NoStartCode = 1
number_of (ForbiddenBytes at) = 2
number_of (EmptyUnit at) = 3
number_of Memory = 4

-- what a fault says of the text: memory runs out only for one that has units
abbrev pub IsFaultOf : List ℕ → SplitFault → Type 0
IsFaultOf text NoStartCode = IsFalse (begins_with_start_code text)
IsFaultOf text (ForbiddenBytes at) = IsFirstForbidden text at
IsFaultOf text (EmptyUnit at) = IsFirstEmpty text at
IsFaultOf text Memory = (units : List (List ℕ)) × HasUnits text units
