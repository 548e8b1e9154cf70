-- The ids that a group is answered.
use Rattle.std.proofs.Common.{◌≡◌, ℕ, suc, List, [], ◌∷◌, length, Result, Ok, Err, IfOk, refl, ap}
use Rattle.stream_edits.specs.declared.edits.Edit.{Edit}
use Rattle.stream_edits.specs.declared.group_refused.GroupRefused.{GroupRefused}
use Rattle.stream_edits.specs.declared.receipts.GroupReceipt.{GroupReceipt}
use Rattle.stream_edits.specs.Edits.{Register}
use Rattle.stream_edits.specs.Groups.{MakesAll}
use Rattle.stream_session.specs.Grouping.{AnswersGroup}
use Rattle.c_calls.specs.Machines.{Machine}

-- there are as many as edits
pub length-ids : (from : Register) (edits : List Edit) (ids : List ℕ) (to : Register) → MakesAll from edits ids to
    → length ids ≡ length edits
length-ids from [] [] to all = refl
length-ids from [] (id ∷ ids) to all = absurd all
length-ids from (edit ∷ edits) [] to all = absurd all
length-ids from (edit ∷ edits) (id ∷ ids) to all = ap (λ (n : ℕ). suc n) (length-ids all.0 edits ids to all.2)

-- an accepted group has an id for each edit
pub ids-of-group : (old : Machine) (edits : List Edit) (answer : Result GroupReceipt GroupRefused) (new : Machine)
    → AnswersGroup old edits answer new → IfOk answer (λ receipt. length receipt.ids.items ≡ length edits)
ids-of-group old edits (Ok receipt) new made = length-ids old.register edits receipt.ids.items new.register made.made
ids-of-group old edits (Err refused) new made = tt
