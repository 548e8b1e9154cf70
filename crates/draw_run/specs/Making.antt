-- The edits of a script made on a session, and what is told of those that are refused
-- (docs/OUTPUT.md).
use Rattle.std.specs.Prelude.{◌≡◌, ℕ, ◌++◌, List, [], codes, decimal, Result, Ok, Err}
use Rattle.stream_edits.specs.declared.group_refused.GroupRefused.{GroupRefused}
use Rattle.stream_edits.specs.declared.receipts.GroupReceipt.{GroupReceipt}
use Rattle.stream_edits.specs.declared.receipts.Receipt.{Receipt}
use Rattle.stream_edits.specs.declared.refusals.EditRefused.{EditRefused}
use Rattle.stream_session.specs.Grouping.{AnswersGroup}
use Rattle.stand_in_session.specs.Machines.{Machine}
use Rattle.stream_session.specs.Machines.{AnswersEdit}
use Rattle.edit_script.specs.declared.edit_commands.EditCommand.{EditCommand}
use Rattle.edit_script.specs.declared.edit_commands.EditCommand.TheVariants as commands
use Rattle.script_run.specs.Answers.{refused_line}
use Rattle.script_run.specs.GroupLines.{group_refused_line}
use Rattle.script_run.specs.Sequences.{AreAnswered}

-- the words for the line of a script that has this number
abbrev pub line_words : ℕ → List ℕ
line_words number = codes "line " ++ (decimal number ++ codes ": ")

-- what is told of an edit: where it is refused the line that answers it, after the number of its
-- own line
abbrev pub edit_told : ℕ → Result Receipt EditRefused → List ℕ
edit_told number (Ok receipt) = []
edit_told number (Err refused) = line_words number ++ refused_line refused

-- what is told of a group
abbrev pub group_told : ℕ → Result GroupReceipt GroupRefused → List ℕ
group_told number (Ok receipt) = []
group_told number (Err refused) = line_words number ++ group_refused_line refused

-- the command of the line with this number is made, or refused and changes nothing, and this is
-- told of it
abbrev pub Makes : Machine → ℕ × EditCommand → List ℕ → Machine → Type 0
Makes old (number, commands.Edit edit) told new =
    (answer : Result Receipt EditRefused) × AnswersEdit old edit answer new × (told ≡ edit_told number answer)
Makes old (number, commands.Group edits) told new =
    (answer : Result GroupReceipt GroupRefused) × AnswersGroup old edits.items answer new × (told ≡ group_told number answer)

-- the commands are made one after the other, and this is told of them in all
abbrev pub AreMade : Machine → List (ℕ × EditCommand) → List ℕ → Machine → Type 0
AreMade from commands told to = AreAnswered Makes from commands told to
