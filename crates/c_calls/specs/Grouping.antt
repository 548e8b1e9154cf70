-- Groups of edits, which a caller asks for by kinds, ids and places in one buffer of texts.
use Rattle.std.specs.Prelude.{◌≡◌, ◌==◌, ◌<◌, ◌≤◌, ◌+◌, ◌++◌, ◌⊎◌, ℕ, List, length, map, take, drop, nat_lt, slice_get, slice_range, Option, None, Some, Result, Ok, Err, IfOk, if◌then◌else◌}
use Rattle.std.specs.Option.{option_map}
use Rattle.stream_edits.specs.declared.edits.Edit.{Edit}
use Rattle.stream_edits.specs.declared.edits.Edit.TheVariants.{Delete, Insert, Replace}
use Rattle.stream_edits.specs.declared.edits.InsertionPoint.TheVariants.{After, First}
use Rattle.stream_edits.specs.declared.receipts.GroupReceipt.{GroupReceipt}
use Rattle.stream_edits.specs.declared.group_refused.GroupRefused.{GroupRefused}
use Rattle.stream_edits.specs.declared.group_refused.GroupRefused.TheVariants as groups
use Rattle.stream_edits.specs.GroupRefusals.{number_of_group}
use Rattle.stream_edits.specs.Groups.{most_edits}
use Rattle.stream_edits.specs.Numbers.{number_of}
use Rattle.c_calls.specs.Machines.{Machine}
use Rattle.stream_session.specs.Grouping.{AnswersGroup}
use Rattle.stream_session.specs.Machines.{KeepsPictures}
use Rattle.c_calls.specs.declared.grouping.GivenEdit.{GivenEdit}
use Rattle.c_calls.specs.declared.grouping.EditsReceipt.{EditsReceipt}
use Rattle.c_calls.specs.Editing.{IsWanting}
use Rattle.c_calls.specs.Statuses.{done, not_an_edit, too_small}

-- the text of an edit that is asked for, where it lies within the bytes
abbrev pub text_in : List ℕ → GivenEdit → Option (List ℕ)
text_in texts given =
    if nat_lt (length texts) (given.from + given.count) then None
    else Some (slice_range texts given.from (given.from + given.count))

-- the edit of a kind, about the unit of the id, with the text, if it needs one
abbrev pub edit_of_kind : ℕ → ℕ → Option (List ℕ) → Option Edit
edit_of_kind kind id text =
    if kind == 0 then option_map (Insert First) text
    else if kind == 1 then option_map (Insert (After id)) text
    else if kind == 2 then Some (Delete id)
    else if kind == 3 then option_map (Replace id) text
    else None

-- the edit that is asked for, if it is one
abbrev pub given_edit : List ℕ → GivenEdit → Option Edit
given_edit texts given = edit_of_kind given.kind given.id (text_in texts given)

-- these edits are asked for
abbrev pub AreGiven : List ℕ → List GivenEdit → List Edit → Type 0
AreGiven texts given edits = map (given_edit texts) given ≡ map Some edits

-- what is asked for at the index is the first that is no edit
abbrev pub IsNoEdit : List ℕ → List GivenEdit → ℕ → Type 0
IsNoEdit texts given index =
    ((edits : List Edit) × AreGiven texts (take index given) edits)
    × (option_map (given_edit texts) (slice_get given index) ≡ Some None)

-- what is told, and behind it what was there
abbrev pub filled : {T : Type 0} → List T → List T → List T
filled before was = before ++ drop (length before) was

-- what is told of a group that was made
abbrev pub as_edits_receipt : GroupReceipt → EditsReceipt
as_edits_receipt receipt = record {
  number = receipt.number;
  steps = receipt.steps;
  hashed = receipt.hashed;
  changed_from = receipt.changed.from;
  changed_count = receipt.changed.count;
  index = 0;
}

-- what is told of a group whose edit at the index is why it isn't made
abbrev pub refused_at : ℕ → EditsReceipt
refused_at index =
    record { number = 0; steps = 0; hashed = 0; changed_from = 0; changed_count = 0; index = index }

-- the ids and the rest that are told of an answer to a group
abbrev pub TellsGroup : Result GroupReceipt GroupRefused → ℕ → List ℕ × EditsReceipt → List ℕ × EditsReceipt → Type 0
TellsGroup (Ok receipt) status old new = (status ≡ done) × (new ≡ (filled receipt.ids.items old.0, as_edits_receipt receipt))
TellsGroup (Err (groups.Edit index refused)) status old new =
    (status ≡ number_of refused) × (new ≡ (old.0, refused_at index))
TellsGroup (Err refused) status old new = (status ≡ number_of_group refused) × (new ≡ old)

-- the group has its answer, is accepted only where it isn't too large, and no surface comes or goes
abbrev pub MakesGroup : Machine → List Edit → Result GroupReceipt GroupRefused → Machine → Type 0
MakesGroup old edits answer new =
    AnswersGroup old edits answer new × KeepsPictures old new × IfOk answer (λ _. length edits ≤ most_edits)

-- the group has its answer, and this is told
abbrev pub GroupsBy : Machine → List Edit → ℕ → List ℕ × EditsReceipt → List ℕ × EditsReceipt → Machine → Type 0
GroupsBy old edits status before after new =
    (answer : Result GroupReceipt GroupRefused) × MakesGroup old edits answer new × TellsGroup answer status before after

-- the edits that are asked for are made together, or refused; or one of them is no edit; or memory
-- is refused before the session is reached
abbrev pub GroupsGiven : Machine → List ℕ → List GivenEdit → ℕ → List ℕ × EditsReceipt → List ℕ × EditsReceipt → Machine → Type 0
GroupsGiven old texts given status before after new =
    ((edits : List Edit) × AreGiven texts given edits × GroupsBy old edits status before after new)
    ⊎ ((index : ℕ) × IsNoEdit texts given index × (status ≡ not_an_edit) × (after ≡ (before.0, refused_at index)) × (new ≡ old))
    ⊎ IsWanting old status before after new

-- there is too little room for the ids, or the group is made or not as it is asked for
abbrev pub GroupsTo : Machine → List ℕ → List GivenEdit → ℕ → List ℕ × EditsReceipt → List ℕ × EditsReceipt → Machine → Type 0
GroupsTo old texts given status before after new =
    ((length before.0 < length given) × (status ≡ too_small) × (after ≡ before) × (new ≡ old))
    ⊎ ((length given ≤ length before.0) × GroupsGiven old texts given status before after new)
