-- Of several faults the one of the lowest number.
use Rattle.std.specs.Prelude.{List, [], ◌∷◌, Result, Ok, Err, nat_le, if◌then◌else◌}
use Rattle.unit_outcomes.specs.declared.validity_fault.ValidityFault.{ValidityFault}
use Rattle.unit_outcomes.specs.Numbers.{number_of}

-- of two faults the one of the lower number
abbrev pub lower : ValidityFault → ValidityFault → ValidityFault
lower fault other = if nat_le (number_of fault) (number_of other) then fault else other

-- one answer before the others: of several faults the one of the lowest number is given
abbrev pub joined : {A : Type 0} → Result A ValidityFault → Result (List A) ValidityFault → Result (List A) ValidityFault
joined (Ok x) (Ok xs) = Ok (x ∷ xs)
joined (Ok x) (Err other) = Err other
joined (Err fault) (Ok xs) = Err fault
joined (Err fault) (Err other) = Err (lower fault other)

-- what several slices give: all that they have, or the fault of the lowest number that any shows
abbrev pub gathered : {A : Type 0} → List (Result A ValidityFault) → Result (List A) ValidityFault
gathered [] = Ok []
gathered (answer ∷ answers) = joined answer (gathered answers)
