-- Edits, and what is told of them.
use Rattle.std.specs.Prelude.{◌≡◌, ◌⊎◌, ℕ, Result, Ok, Err}
use Rattle.stream_edits.specs.declared.edits.Edit.{Edit}
use Rattle.stream_edits.specs.declared.receipts.Receipt.{Receipt}
use Rattle.stream_edits.specs.declared.refusals.EditRefused.{EditRefused}
use Rattle.stream_edits.specs.Numbers.{number_of}
use Rattle.c_calls.specs.Machines.{Machine}
use Rattle.stream_session.specs.Machines.{AnswersEdit, KeepsPictures}
use Rattle.c_calls.specs.declared.editing.EditReceipt.{EditReceipt}
use Rattle.c_calls.specs.Statuses.{memory}
use Rattle.c_calls.specs.Telling.{Tells}

-- a receipt, as it is told
abbrev pub as_receipt : Receipt → EditReceipt
as_receipt receipt = record {
  number = receipt.number;
  steps = receipt.steps;
  hashed = receipt.hashed;
  changed_from = receipt.changed.from;
  changed_count = receipt.changed.count;
  id = receipt.id;
}

-- an answer to an edit, as it is told: its receipt, or the number of its refusal
abbrev pub as_edit_receipt : Result Receipt EditRefused → Result EditReceipt ℕ
as_edit_receipt (Ok receipt) = Ok (as_receipt receipt)
as_edit_receipt (Err refused) = Err (number_of refused)

-- the edit has its answer, and no surface comes or goes: what is neither held nor cached any more is
-- released
abbrev pub MakesEdit : Machine → Edit → Result Receipt EditRefused → Machine → Type 0
MakesEdit old edit answer new = AnswersEdit old edit answer new × KeepsPictures old new

-- the edit has its answer, and this is told
abbrev pub EditsBy : Machine → Edit → ℕ → EditReceipt → EditReceipt → Machine → Type 0
EditsBy old edit status before after new =
    (answer : Result Receipt EditRefused) × MakesEdit old edit answer new
    × Tells (as_edit_receipt answer) status before after

-- memory was refused before the session was reached: nothing changes
abbrev pub IsWanting : {A : Type 0} → Machine → ℕ → A → A → Machine → Type 0
IsWanting old status before after new = (status ≡ memory) × (after ≡ before) × (new ≡ old)

-- an edit whose text is copied first, which may run out of memory whatever the text is
abbrev pub EditsByCopy : Machine → Edit → ℕ → EditReceipt → EditReceipt → Machine → Type 0
EditsByCopy old edit status before after new =
    EditsBy old edit status before after new ⊎ IsWanting old status before after new
