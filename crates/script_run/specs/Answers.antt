-- The lines that answer the commands of a script (docs/OUTPUT.md).
use Rattle.std.specs.Prelude.{ℕ, ◌++◌, Bool, List, codes, decimal, Option, Some, None, Result, Ok, Err}
use Rattle.stream_edits.specs.declared.receipts.Receipt.{Receipt}
use Rattle.stream_edits.specs.declared.refusals.EditRefused.{EditRefused}
use Rattle.stream_session.specs.declared.showing.NoSuchUnit.{NoSuchUnit}
use Rattle.stand_in_session.specs.declared.replies.Reply.{Reply}
use Rattle.stand_in_session.specs.declared.replies.Reply.TheVariants as replies
use Rattle.stand_in_session.specs.declared.replies.UnitReport.{UnitReport}
use Rattle.stream_edits.specs.Names.{name_of}
use Rattle.stream_edits.specs.Numbers.{number_of}
use Rattle.unit_printing.specs.UnitLines.{outcome_lines}
use Rattle.edit_script.specs.Words.{id_of}
use Rattle.script_run.specs.GroupLines.{group_answer_line}
use Rattle.script_run.specs.JobLines.{taken_line, landed_line, given_line, dropped_line, cleared_line}
use Rattle.script_run.specs.ShownLines.{shown_line}

-- the line of an accepted edit
abbrev pub accepted_line : Receipt → List ℕ
accepted_line receipt =
    codes "edit " ++ (decimal receipt.number ++ (codes " id " ++ (decimal receipt.id ++ codes "\n")))

-- the line of a refused edit
abbrev pub refused_line : EditRefused → List ℕ
refused_line refused =
    codes "refused " ++ (decimal (number_of refused) ++ (codes " " ++ (name_of refused ++ codes "\n")))

-- the line that answers an edit
abbrev pub edit_line : Result Receipt EditRefused → List ℕ
edit_line (Ok receipt) = accepted_line receipt
edit_line (Err refused) = refused_line refused

-- the line of a file whose units were inserted
abbrev pub loaded_line : ℕ → List ℕ
loaded_line count = codes "loaded " ++ (decimal count ++ codes "\n")

-- the line of a unit that isn't there
abbrev pub no_unit_line : ℕ → List ℕ
no_unit_line number = codes "unit " ++ (decimal number ++ codes " none\n")

-- the lines of what is reported of the unit of a number
abbrev pub report_lines : ℕ → Result UnitReport NoSuchUnit → List ℕ
report_lines number (Ok report) = outcome_lines (id_of number) report.position report.outcome
report_lines number (Err none) = no_unit_line number

-- the lines of a session's reply, which name the number that was asked for; pictures have digits
-- where they are asked for. That all numbers of jobs were given has no line: it ends the run
abbrev pub reply_lines : Bool → ℕ → Reply → Option (List ℕ)
reply_lines hex number (replies.Edit answer) = Some (edit_line answer)
reply_lines hex number (replies.Group answer) = Some (group_answer_line answer)
reply_lines hex number (replies.Unit report) = Some (report_lines number report)
reply_lines hex number (replies.Take (Ok job)) = Some (taken_line job)
reply_lines hex number (replies.Take (Err refused)) = None
reply_lines hex number (replies.TakeFor (Ok job)) = Some (taken_line job)
reply_lines hex number (replies.TakeFor (Err refused)) = None
reply_lines hex number (replies.Land answer) = Some (landed_line number answer)
reply_lines hex number (replies.GiveBack answer) = Some (given_line number answer)
reply_lines hex number (replies.Show shown) = Some (shown_line hex number shown)
reply_lines hex number (replies.Dropped dropping) = Some (dropped_line number dropping)
reply_lines hex number replies.Cleared = Some cleared_line
