-- What reading a text as one access unit answers.
use Rattle.std.specs.Prelude.{◌≡◌, ℕ, ◌<◌, ◌≤◌, List, Option, None, Some, Result, Ok, Err, length, ◌⊎◌}
use Rattle.annexb.specs.ByteStream.{HasUnits}
use Rattle.access_unit.specs.declared.refused.Refused.{Refused}
use Rattle.access_unit.specs.declared.refused.Refused.TheVariants.{Split, TooLarge, Memory}
use Rattle.access_unit.specs.Refusals.{refusal_of, most_bytes}

-- the NAL units of the text, or nothing where it has none
abbrev pub IsSplit : List ℕ → Option (List (List ℕ)) → Type 0
IsSplit text (Some units) = HasUnits text units
IsSplit text None = (units : List (List ℕ)) → ¬ HasUnits text units

-- the text is one of these NAL units, and isn't too long for an access unit
pub record IsShortText (text : List ℕ) (units : List (List ℕ)) : Type 0 where
  pub has : HasUnits text units
  pub short : length text ≤ most_bytes

-- the text is one of an access unit with these NAL units
pub record IsAccepted (text : List ℕ) (units : List (List ℕ)) : Type 0 where
  pub has : HasUnits text units
  pub short : length text ≤ most_bytes
  pub sound : refusal_of units ≡ None

-- the text is refused so: for its length first, then because it doesn't split, then for its NAL units
pub data IsRefused (text : List ℕ) (refused : Refused) : Type 0 where
  too_long : most_bytes < length text → refused ≡ TooLarge → IsRefused text refused
  unsplit :
      length text ≤ most_bytes → ((units : List (List ℕ)) → ¬ HasUnits text units) → refused ≡ Split
      → IsRefused text refused
  shown :
      length text ≤ most_bytes → (units : List (List ℕ)) → HasUnits text units
      → refusal_of units ≡ Some refused → IsRefused text refused

-- an answer for the text: its NAL units, its refusal, or that memory ran out
abbrev pub IsReadAs : List ℕ → Result (List (List ℕ)) Refused → Type 0
IsReadAs text (Ok units) = IsAccepted text units
IsReadAs text (Err refused) = (refused ≡ Memory) ⊎ IsRefused text refused
