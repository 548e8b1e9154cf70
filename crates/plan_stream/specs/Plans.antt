-- What `plan` prints of a text (docs/OUTPUT.md).
use Rattle.std.specs.Prelude.{◌≡◌, ℕ, ◌≤◌, List, length, Option, ◌⊎◌}
use Rattle.std.specs.Io.KnownBytes.{Appends, Keeps}
use Rattle.console_io.specs.Chunks.{AppendsFront}
use Rattle.access_unit.specs.StreamUnits.{IsStream, IsStreamRefused, most_units}
use Rattle.unit_printing.specs.Refusals.{refusal_text}
use Rattle.plan_stream.specs.Streams.{numbered_from}
use Rattle.plan_stream.specs.StreamText.{stream_text}
use Rattle.access_unit.specs.declared.stream_units.Refusal.{Refusal}
use Rattle.plan_stream.specs.declared.fault.PlanFault.{PlanFault}
use Rattle.plan_stream.specs.declared.fault.PlanFault.TheVariants.{Unread, Refused, Memory, Unwritten}

-- the text is a stream, and these are the lines of its units, whose ids are 1, 2, 3 and so on
pub record IsPlanned (text : List ℕ) (lines : List ℕ) : Type 0 where
  pub parts : List (List (List ℕ))
  pub stream : IsStream text parts
  pub bounded : length parts ≤ most_units
  pub lines_are : lines ≡ stream_text (numbered_from 1 parts)

-- the text is refused, and this is the line that says why
pub record IsRefused (text : List ℕ) (lines : List ℕ) : Type 0 where
  pub refusal : Refusal
  pub refused : IsStreamRefused text most_units refusal
  pub lines_are : lines ≡ refusal_text refusal

-- all lines of the text's units were written
abbrev pub WritesPlan : List ℕ → Option (List ℕ) → Option (List ℕ) → Type 0
WritesPlan text old new = (lines : List ℕ) × IsPlanned text lines × Appends old new lines

-- nothing was written, or a prefix of the lines of the text's units, or of the line of its refusal
abbrev pub WritesFront : List ℕ → Option (List ℕ) → Option (List ℕ) → Type 0
WritesFront text old new =
    Keeps old new ⊎ ((lines : List ℕ) × (IsPlanned text lines ⊎ IsRefused text lines) × AppendsFront old new lines)

-- what was written of a text whose plan ended by this fault: nothing where it wasn't read, the
-- whole line of its refusal, nothing or a prefix of its units' lines where memory runs out, or any
-- prefix where the writer refused
abbrev pub EndsBy : List ℕ → PlanFault → Type 0 → Option (List ℕ) → Option (List ℕ) → Type 0
EndsBy text Unread refused old new = Keeps old new
EndsBy text (Refused refusal) refused old new =
    IsStreamRefused text most_units refusal × Appends old new (refusal_text refusal)
EndsBy text Memory refused old new =
    Keeps old new ⊎ ((lines : List ℕ) × IsPlanned text lines × AppendsFront old new lines)
EndsBy text Unwritten refused old new = refused × WritesFront text old new
