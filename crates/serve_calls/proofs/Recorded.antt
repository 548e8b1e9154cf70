-- What is recorded of a load.
use Rattle.std.proofs.Common.{◌≡◌, ℕ, List, Option, Result, Ok, Err, inl, inr, refl, subst, sym}
use Rattle.access_unit.specs.StreamUnits.{IsStream}
use Rattle.stand_in_session.specs.Machines.{Machine}
use Rattle.stream_edits.specs.declared.receipts.GroupReceipt.{GroupReceipt}
use Rattle.session_journal.specs.declared.steps.step.RecordedStep.{RecordedStep}
use Rattle.session_journal.specs.declared.unkept.Unkept.{Unkept}
use Rattle.session_journal.specs.declared.unkept.Unkept.TheVariants as unkept
use Rattle.serve_requests.specs.declared.call.Loaded.{Loaded}
use Rattle.serve_requests.specs.declared.call.Loaded.TheVariants as loaded
use Rattle.serve_requests.specs.declared.failure.Failure.{Failure}
use Rattle.serve_answers.specs.declared.left_out_answers.LeftOutAnswer.{LeftOutAnswer}
use Rattle.serve_calls.specs.declared.loading.Inserted.{Inserted}
use Rattle.serve_calls.specs.declared.unmade.EditFault.{EditFault}
use Rattle.serve_calls.specs.declared.unmade.EditFault.TheVariants as edit_fault
use Rattle.serve_calls.specs.declared.unmade.GroupFault.{GroupFault}
use Rattle.serve_calls.specs.declared.unmade.GroupFault.TheVariants as group_fault
use Rattle.serve_calls.specs.Failing.{out_of_memory}
use Rattle.serve_calls.specs.Loading.{IsTextless, load_answer, uninserted}
use Rattle.serve_calls.specs.Recording.{AreMadeBefore, RecordsIf, RecordsInserted, RecordsStream}
use Rattle.serve_calls.specs.Unmade.{group_made_answer, unkept_failure}

-- where one isn't inserted once so many were, the failure says so many if it says how many
pub made-before : (fault : EditFault) (units : ℕ) → AreMadeBefore (uninserted fault units) units
made-before (edit_fault.Refused refused) units = refl
made-before (edit_fault.Unkept unkept.Unwritten) units = tt {0}
made-before (edit_fault.Unkept unkept.Memory) units = tt {0}

-- a load that isn't recorded fails so that it says of no unit that it was inserted
pub none-made : (why : Unkept) → AreMadeBefore (unkept_failure why) 0
none-made unkept.Unwritten = tt {0}
none-made unkept.Memory = tt {0}

-- and so does one for lack of memory
pub none-remembered : (failure : Failure) → failure ≡ out_of_memory → AreMadeBefore failure 0
none-remembered failure is = subst (λ (it : Failure). AreMadeBefore it 0) (sym is) (tt {0})

-- and one whose text can't be read
pub none-read : (it : Loaded) (failure : Failure) → IsTextless it failure → AreMadeBefore failure 0
none-read (loaded.Text text) failure is = none-remembered failure is
none-read (loaded.File name) failure (inl is) = subst (λ (it : Failure). AreMadeBefore it 0) (sym is) (tt {0})
none-read (loaded.File name) failure (inr is) = none-remembered failure is

-- what is recorded of the units of a text is so by the result of the load too
pub stream-recorded : (is_session : Machine → Type 0) (before after : List RecordedStep → Type 0) (text : List ℕ) (units : List (List (List ℕ)))
    (left_out : Option (List LeftOutAnswer)) (inserted : Result Inserted Failure) → IsStream text units
    → RecordsInserted is_session before units inserted after
    → RecordsStream is_session before text (load_answer left_out inserted) after
stream-recorded is_session before after text units left_out (Ok inserted) stream (inl it) = inl (units, it.0, stream, it.1, it.2)
stream-recorded is_session before after text units left_out (Err failure) stream (inl it) = inl (units, it.0, stream, it.1, it.2)
stream-recorded is_session before after text units left_out (Ok inserted) stream (inr it) = inr it
stream-recorded is_session before after text units left_out (Err failure) stream (inr it) = inr it

-- what is recorded of a group by the session's answer is so by the result too
pub group-recorded : (before after : List RecordedStep → Type 0) (step : RecordedStep) (answer : Result GroupReceipt GroupFault)
    → RecordsIf before step answer after → RecordsIf before step (group_made_answer answer) after
group-recorded before after step (Ok receipt) it = it
group-recorded before after step (Err (group_fault.Refused refused)) it = it
group-recorded before after step (Err (group_fault.Unkept why)) it = it
