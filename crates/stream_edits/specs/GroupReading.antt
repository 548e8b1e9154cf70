-- A group whose texts are read, up to the first that is refused.
use Rattle.std.specs.Prelude.{◌≡◌, List, length, take, Option, None, Some, slice_get}
use Rattle.stream_edits.specs.declared.edits.Edit.{Edit}
use Rattle.stream_edits.specs.declared.refusals.EditRefused.{EditRefused}
use Rattle.stream_edits.specs.Edits.{Register}
use Rattle.stream_edits.specs.Groups.{IsSized}
use Rattle.stream_edits.specs.Refusals.{IsRefused}

-- those that are read are the first ones; where none is refused they are all, and else the next one
-- is refused so whatever the stream is
abbrev pub AreReadUpTo : List Edit → List Edit → Option EditRefused → Type 0
AreReadUpTo edits read None = read ≡ edits
AreReadUpTo edits read (Some refused) =
    (read ≡ take (length read) edits) × (edit : Edit) × (slice_get edits (length read) ≡ Some edit)
    × ((old : Register) → IsRefused old edit refused)

-- a group of a size that may be is read
pub record IsReadGroup (edits read : List Edit) (refused : Option EditRefused) : Type 0 where
  pub sized : IsSized edits
  pub up_to : AreReadUpTo edits read refused
