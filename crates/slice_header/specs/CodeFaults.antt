-- What the refusal of a code is in a slice header: a code that is cut, and one that is too long and so out of range.
use Rattle.expgolomb.specs.declared.fault.CodeFault.{CodeFault}
use Rattle.expgolomb.specs.declared.fault.CodeFault.TheVariants as code
use Rattle.slice_header.specs.declared.fault.HeaderFault.{HeaderFault}
use Rattle.slice_header.specs.declared.fault.HeaderFault.TheVariants.{Cut, Value}

-- by its kind
abbrev pub fault_of : CodeFault → HeaderFault
fault_of code.Cut = Cut
fault_of code.TooLong = Value
