-- A change of a stream in one range, and the one that an edit comes to.
use Rattle.std.specs.Prelude.{ℕ, ◌+◌, ◌≤◌, ◌++◌, length, take, drop}
use Rattle.stream_edits.specs.declared.changes.Change.{Change}
use Rattle.stream_edits.specs.declared.accepting.AcceptedEdit.{AcceptedEdit}
use Rattle.stream_edits.specs.declared.edits.Edit.{Edit}
use Rattle.stream_edits.specs.Streams.{Stream}
use Rattle.stream_edits.specs.Edits.{Register, Makes}

-- the place at which the range begins
abbrev pub at_of : Change → ℕ
at_of change = change.at

-- the place of the stream as it was at which the units begin that stay behind the range
abbrev pub rest_from : Change → ℕ
rest_from change = change.rest

-- the units that it brings
abbrev pub units_of : Change → Stream
units_of change = change.units.items

-- the range is within the stream
pub record IsInside (change : Change) (stream : Stream) : Type 0 where
  pub ordered : at_of change ≤ rest_from change
  pub within : rest_from change ≤ length stream

-- the stream after it
abbrev pub stream_after : Change → Stream → Stream
stream_after change stream = take (at_of change) stream ++ units_of change ++ drop (rest_from change) stream

-- the stream after it, and so many ids given
abbrev pub after : Change → ℕ → Stream → Register
after change ids_given stream = record { ids_given = ids_given; stream = stream_after change stream }

-- the change is what the edit comes to: it brings one unit at most, and takes one at most away
pub record IsFor (old : Register) (edit : Edit) (accepted : AcceptedEdit) : Type 0 where
  pub inside : IsInside accepted.change old.stream
  pub brings_one : length (units_of accepted.change) ≤ 1
  pub takes_one : rest_from accepted.change ≤ at_of accepted.change + 1
  pub makes : Makes old edit accepted.id (after accepted.change accepted.ids_given old.stream)
