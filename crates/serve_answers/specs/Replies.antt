-- What a session's answers are as results (docs/SERVER.md).
use Rattle.std.specs.Prelude.{Option, Some, None, Result, Ok, Err}
use Rattle.hex.specs.Hex.{encode_lower}
use Rattle.unit_outcomes.specs.Numbers.{number_of}
use Rattle.stand_in_session.specs.declared.replies.NotOut.{NotOut}
use Rattle.stand_in_session.specs.declared.jobs.Dropping.{Dropping}
use Rattle.stand_in_session.specs.declared.jobs.Dropping.TheVariants as dropping
use Rattle.stand_in_session.specs.Showing.{Shown}
use Rattle.stream_session.specs.declared.showing.Shown.TheVariants as shown
use Rattle.picture_store.specs.declared.answers.Landing.{Landing}
use Rattle.picture_store.specs.declared.answers.Landing.TheVariants as landing
use Rattle.picture_store.specs.declared.answers.Returning.{Returning}
use Rattle.picture_store.specs.declared.answers.Returning.TheVariants as returning
use Rattle.stream_edits.specs.declared.group_refused.GroupRefused.{GroupRefused}
use Rattle.stream_edits.specs.declared.receipts.GroupReceipt.{GroupReceipt}
use Rattle.stream_edits.specs.declared.receipts.Receipt.{Receipt}
use Rattle.stream_edits.specs.declared.refusals.EditRefused.{EditRefused}
use Rattle.serve_requests.specs.declared.failure.Failure.{Failure}
use Rattle.serve_requests.specs.declared.failure.Failure.TheVariants.{Refused}
use Rattle.serve_requests.specs.declared.failure.CallRefusal.TheVariants as refusal
use Rattle.picture_keys.specs.declared.changed_units.changed.Changed.{Changed}
use Rattle.serve_answers.specs.declared.answer.UnitRange.{UnitRange}
use Rattle.serve_answers.specs.declared.answer.Answer.{Answer}
use Rattle.serve_answers.specs.declared.answer.Answer.TheVariants.{Edited, Grouped, Shown as Shows, Word}
use Rattle.serve_answers.specs.declared.answer.Appearance.TheVariants as appearance
use Rattle.serve_answers.specs.declared.answer.UnitState.{UnitState}
use Rattle.serve_answers.specs.declared.answer.UnitState.TheVariants as state
use Rattle.serve_answers.specs.declared.words.Word.TheVariants as word

-- the range that an edit changed
abbrev pub range_of : Changed → UnitRange
range_of changed = record { from = changed.from; count = changed.count }

-- the result of an edit
abbrev pub edit_answer : Result Receipt EditRefused → Result Answer Failure
edit_answer (Ok receipt) = Ok (Edited receipt.number receipt.id receipt.steps (range_of receipt.changed))
edit_answer (Err refused) = Err (Refused (refusal.Edit refused))

-- the result of a group of edits
abbrev pub group_answer : Result GroupReceipt GroupRefused → Result Answer Failure
group_answer (Ok receipt) = Ok (Grouped receipt.number receipt.ids.items receipt.steps (range_of receipt.changed))
group_answer (Err refused) = Err (Refused (refusal.Group refused))

-- the result of what is shown of a unit
abbrev pub show_answer : Shown → Result Answer Failure
show_answer (shown.Ready picture) = Ok (Shows (appearance.Ready (encode_lower picture.digest)))
show_answer shown.Pending = Ok (Shows appearance.Pending)
show_answer (shown.Fault fault) = Ok (Shows (appearance.Fault (number_of fault) fault))
show_answer shown.Empty = Ok (Shows appearance.Empty)
show_answer shown.NoSuchUnit = Err (Refused refusal.NoSuchUnit)

-- what is shown of a unit, unless it is a picture
abbrev pub state_of : Shown → Option UnitState
state_of (shown.Ready picture) = None
state_of shown.Pending = Some state.Pending
state_of (shown.Fault fault) = Some (state.Fault (number_of fault) fault)
state_of shown.Empty = Some state.Empty
state_of shown.NoSuchUnit = Some state.None

-- the result of a picture that was to be dropped
abbrev pub drop_answer : Dropping → Result Answer Failure
drop_answer dropping.Dropped = Ok (Word word.Dropped)
drop_answer dropping.NotHeld = Ok (Word word.NotHeld)
drop_answer dropping.NoSuchUnit = Err (Refused refusal.NoSuchUnit)

-- the result of a job that landed
abbrev pub land_answer : Result Landing NotOut → Answer
land_answer (Ok landing.Taken) = Word word.Taken
land_answer (Ok landing.Stale) = Word word.Stale
land_answer (Ok landing.Foreign) = Word word.None
land_answer (Err none) = Word word.None

-- the result of a job that was given back
abbrev pub give_back_answer : Result Returning NotOut → Answer
give_back_answer (Ok returning.Returned) = Word word.Back
give_back_answer (Ok returning.Foreign) = Word word.None
give_back_answer (Err none) = Word word.None
