-- Why an edit of a stream is refused: the first reason that holds, or that memory was refused
-- before one was found.
use Rattle.std.specs.Prelude.{◌≡◌, ℕ, ◌<◌, ◌≤◌, List, length, None, Some}
use Rattle.annexb.specs.ByteStream.{HasUnits}
use Rattle.access_unit.specs.declared.refused.Refused.{Refused}
use Rattle.access_unit.specs.Answers.{IsAccepted, IsRefused as IsTextRefused}
use Rattle.access_unit.specs.Refusals.{most_bytes}
use Rattle.access_unit.specs.StreamUnits.{most_units}
use Rattle.stream_edits.specs.declared.edits.Edit.{Edit}
use Rattle.stream_edits.specs.declared.edits.Edit.TheVariants.{Insert, Delete, Replace}
use Rattle.stream_edits.specs.declared.refusals.EditRefused.{EditRefused}
use Rattle.stream_edits.specs.declared.refusals.EditRefused.TheVariants as refusals
use Rattle.stream_edits.specs.Streams.{Stream, place_of, start_of}
use Rattle.stream_edits.specs.Edits.{Register, most_ids}

-- the edit's text is refused so
abbrev pub IsUnreadable : Edit → Refused → Type 0
IsUnreadable (Insert place text) refused = IsTextRefused text refused
IsUnreadable (Delete id) refused = ⊥
IsUnreadable (Replace id text) refused = IsTextRefused text refused

-- the text is that of an access unit
abbrev pub IsUnit : List ℕ → Type 0
IsUnit text = (unit : List (List ℕ)) × IsAccepted text unit

-- no unit has the id that the edit names; its text, if it has one, is that of an access unit
abbrev pub LacksUnit : Stream → Edit → Type 0
LacksUnit stream (Insert place text) = IsUnit text × (start_of stream place ≡ None)
LacksUnit stream (Delete id) = place_of stream id ≡ None
LacksUnit stream (Replace id text) = IsUnit text × (place_of stream id ≡ None)

-- an insertion of an access unit at a place that is there
abbrev pub IsInsertion : Stream → Edit → Type 0
IsInsertion stream (Insert place text) = IsUnit text × (at : ℕ) × (start_of stream place ≡ Some at)
IsInsertion stream (Delete id) = ⊥
IsInsertion stream (Replace id text) = ⊥

-- the text splits into NAL units and isn't too long
abbrev pub IsSplittable : List ℕ → Type 0
IsSplittable text = (length text ≤ most_bytes) × (units : List (List ℕ)) × HasUnits text units

-- the edit takes memory, so that it may be refused for want of it: a text that isn't too long and
-- splits is read before its NAL units and its place are looked at, so that it may, too, where they
-- would refuse it; a deletion takes memory once its unit is found
abbrev pub TakesMemory : Stream → Edit → Type 0
TakesMemory stream (Insert place text) = IsSplittable text
TakesMemory stream (Delete id) = (at : ℕ) × (place_of stream id ≡ Some at)
TakesMemory stream (Replace id text) = IsSplittable text

-- the edit is refused so
abbrev pub IsRefused : Register → Edit → EditRefused → Type 0
IsRefused old edit (refusals.Unit refused) = IsUnreadable edit refused
IsRefused old edit refusals.NoSuchUnit = LacksUnit old.stream edit
IsRefused old edit refusals.StreamFull = IsInsertion old.stream edit × (most_units ≤ length old.stream)
IsRefused old edit refusals.IdsSpent =
    IsInsertion old.stream edit × (length old.stream < most_units) × (most_ids ≤ old.ids_given)
IsRefused old edit refusals.Memory = TakesMemory old.stream edit

-- an edit of this text is refused so for it, whatever the stream is
abbrev pub IsRefusedText : List ℕ → EditRefused → Type 0
IsRefusedText text (refusals.Unit refused) = IsTextRefused text refused
IsRefusedText text refusals.NoSuchUnit = ⊥
IsRefusedText text refusals.StreamFull = ⊥
IsRefusedText text refusals.IdsSpent = ⊥
IsRefusedText text refusals.Memory = IsSplittable text
