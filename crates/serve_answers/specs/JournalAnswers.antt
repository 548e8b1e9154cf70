-- Accepted edits as results, as parameters of a group have them (docs/SERVER.md).
use Rattle.std.specs.Prelude.{ℕ, List, map, Option, None, Some}
use Rattle.base64.specs.Engines.{standard}
use Rattle.base64.specs.GeneralPurpose.{encode_of}
use Rattle.stream_edits.specs.declared.edits.Edit.{Edit as EditValue}
use Rattle.stream_edits.specs.declared.edits.Edit.TheVariants as edits
use Rattle.stream_edits.specs.declared.edits.InsertionPoint.{InsertionPoint}
use Rattle.stream_edits.specs.declared.edits.InsertionPoint.TheVariants.{First, After}
use Rattle.serve_answers.specs.declared.journal_answers.EditAnswer.{EditAnswer}
use Rattle.serve_answers.specs.declared.journal_answers.EditAnswer.TheVariants.{Insert, Delete, Replace}
use Rattle.serve_answers.specs.declared.journal_answers.EntryAnswer.{EntryAnswer}

-- the id of the unit behind which one is inserted; none before all
abbrev pub after_of : InsertionPoint → Option ℕ
after_of First = None
after_of (After id) = Some id

-- an edit
abbrev pub edit_answer : EditValue → EditAnswer
edit_answer (edits.Insert place text) = Insert (after_of place) (encode_of standard text)
edit_answer (edits.Delete id) = Delete id
edit_answer (edits.Replace id text) = Replace id (encode_of standard text)

-- edits that were accepted together
abbrev pub entry_answer : List EditValue → EntryAnswer
entry_answer edits = record { edits = map edit_answer edits }
