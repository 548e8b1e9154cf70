-- The lines of what is shown of a unit (docs/OUTPUT.md).
use Rattle.std.specs.Prelude.{ℕ, ◌++◌, Bool, true, false, List, codes, decimal}
use Rattle.hex.specs.Hex.{encode_lower}
use Rattle.unit_outcomes.specs.declared.validity_fault.ValidityFault.{ValidityFault}
use Rattle.unit_outcomes.specs.Names.{name_of}
use Rattle.unit_outcomes.specs.Numbers.{number_of}
use Rattle.stand_in_device.specs.declared.picture.Picture.{Picture}
use Rattle.stand_in_session.specs.Showing.{Shown}
use Rattle.stream_session.specs.declared.showing.Shown.TheVariants.{Ready, Pending, Fault, Empty, NoSuchUnit}

-- the line of a unit of which a word is shown
abbrev pub word_line : ℕ → List ℕ → List ℕ
word_line number word = codes "show " ++ (decimal number ++ (codes " " ++ (word ++ codes "\n")))

-- the line of a unit whose picture is shown by these digits
abbrev pub digits_line : ℕ → List ℕ → List ℕ
digits_line number digits = codes "show " ++ (decimal number ++ (codes " ready " ++ (digits ++ codes "\n")))

-- the line of a unit whose fault is shown
abbrev pub fault_line : ℕ → ValidityFault → List ℕ
fault_line number fault = codes "show " ++ (decimal number ++ (codes " fault " ++ (decimal (number_of fault)
    ++ (codes " " ++ (name_of fault ++ codes "\n")))))

-- the line of a unit whose picture is shown: with its 64 digits, where they are asked for
abbrev pub ready_line : Bool → ℕ → Picture → List ℕ
ready_line true number picture = digits_line number (encode_lower picture.digest)
ready_line false number picture = word_line number (codes "ready")

-- the line of what is shown of the unit of a number
abbrev pub shown_line : Bool → ℕ → Shown → List ℕ
shown_line hex number (Ready picture) = ready_line hex number picture
shown_line hex number Pending = word_line number (codes "pending")
shown_line hex number (Fault fault) = fault_line number fault
shown_line hex number Empty = word_line number (codes "empty")
shown_line hex number NoSuchUnit = word_line number (codes "none")
