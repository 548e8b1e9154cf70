-- What slices give, one after the other.
use Rattle.std.specs.Prelude.{List, [], ◌∷◌, ◌++◌, Option, None, Some, Result, Ok, Err}
use Rattle.unit_outcomes.specs.declared.validity_fault.ValidityFault.{ValidityFault}
use Rattle.slice_reading.specs.Numbers.{lower}

-- what was found: the items, unless there was a fault
abbrev pub found : {A : Type 0} → List A → Option ValidityFault → Result (List A) ValidityFault
found items None = Ok items
found items (Some fault) = Err fault

-- the lower of a fault and one before it
abbrev pub lower_after : Option ValidityFault → ValidityFault → ValidityFault
lower_after None fault = fault
lower_after (Some before) fault = lower before fault

-- what is found with one answer more
abbrev pub gathered_after : {A : Type 0} → Result (List A) ValidityFault → Result A ValidityFault → Result (List A) ValidityFault
gathered_after (Ok items) (Ok item) = Ok (items ++ item ∷ [])
gathered_after (Ok items) (Err fault) = Err fault
gathered_after (Err before) (Ok item) = Err before
gathered_after (Err before) (Err fault) = Err (lower before fault)
