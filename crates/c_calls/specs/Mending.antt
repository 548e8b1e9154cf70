-- What is told of a text that is mended.
use Rattle.std.specs.Prelude.{◌≡◌, ◌⊎◌, ℕ, List, length, map, take}
use Rattle.stream_mending.specs.Mended.{mended, told as left_out_of}
use Rattle.stream_mending.specs.declared.why.LeftOut.{LeftOut}
use Rattle.stream_mending.specs.declared.why.Why.{Why}
use Rattle.stream_mending.specs.declared.why.Why.TheVariants.{NotNalUnit, Empty, ForbiddenBytes, ForbiddenBit, UnitType, UnreadSps, UnreadPps, Switching, IdrNotIntra, IdrNotReference, TooLarge}
use Rattle.c_calls.specs.declared.mending.LeftOutBytes.{LeftOutBytes}
use Rattle.c_calls.specs.Filling.{Fills}
use Rattle.c_calls.specs.Grouping.{filled}
use Rattle.c_calls.specs.Statuses.{memory}

-- the number of a reason
abbrev pub number_of_why : Why → ℕ
number_of_why NotNalUnit = 1
number_of_why Empty = 2
number_of_why ForbiddenBytes = 3
number_of_why ForbiddenBit = 4
number_of_why (UnitType number) = 5
number_of_why UnreadSps = 6
number_of_why UnreadPps = 7
number_of_why Switching = 8
number_of_why IdrNotIntra = 9
number_of_why IdrNotReference = 10
number_of_why TooLarge = 11

-- the type of a NAL unit that is left out for it, or 0
abbrev pub type_of_why : Why → ℕ
type_of_why (UnitType number) = number
type_of_why why = 0

-- what is left out, as it is told
abbrev pub as_left_out_bytes : LeftOut → LeftOutBytes
as_left_out_bytes left_out = record {
  byte = left_out.byte;
  bytes = left_out.bytes;
  why = number_of_why left_out.why;
  unit_type = type_of_why left_out.why;
}

-- what stays of a text is written if there is room for it; what is left out is told, as much as there is
-- room for, and how often that is
pub record Mends (text : List ℕ) (status : ℕ) (old new : List ℕ) (needed : ℕ) (was after : List LeftOutBytes) (count : ℕ) : Type 0 where
  pub filled_is : Fills (mended text) status old new needed
  pub left_out_are : after ≡ filled (map as_left_out_bytes (take (length was) (left_out_of text))) was
  pub count_is : count ≡ length (left_out_of text)

-- a text is mended; or memory is refused, and all stays as it was
abbrev pub MendsTo : List ℕ → ℕ → List ℕ → List ℕ → ℕ → ℕ → List LeftOutBytes → List LeftOutBytes → ℕ → ℕ → Type 0
MendsTo text status old new need needed was after counted count =
    Mends text status old new needed was after count
    ⊎ ((status ≡ memory) × (new ≡ old) × (needed ≡ need) × (after ≡ was) × (count ≡ counted))
