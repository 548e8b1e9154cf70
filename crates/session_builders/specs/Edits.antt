-- The edits of tests' tables.
use Rattle.stream_edits.specs.declared.edits.Edit.{Edit}
use Rattle.stream_edits.specs.declared.edits.Edit.TheVariants as edits
use Rattle.stream_edits.specs.declared.edits.InsertionPoint.TheVariants as places
use Rattle.session_builders.specs.declared.told.EditRow.{EditRow}
use Rattle.session_builders.specs.declared.told.EditRow.TheVariants as told

-- the edit of a row
abbrev pub edit_in_row : EditRow → Edit
edit_in_row (told.First text) = edits.Insert places.First text.now
edit_in_row (told.After id text) = edits.Insert (places.After id) text.now
edit_in_row (told.Delete id) = edits.Delete id
edit_in_row (told.Replace id text) = edits.Replace id text.now
