-- Answers to commands, by the files that a source gives.
use Rattle.std.proofs.Common.{◌≡◌, ℕ, Bool, List}
use Rattle.stand_in_session.specs.Machines.{Machine}
use Rattle.edit_script.specs.declared.session_commands.SessionCommand.{SessionCommand}
use Rattle.edit_script.specs.declared.session_commands.SessionCommand.TheVariants as command
use Rattle.console_io.specs.Inputs.{Files}
use Rattle.script_run.specs.Running.{Answers}
use Rattle.unit_printing.specs.declared.json.json_line.JsonLine.{JsonLine}

module _ (says : JsonLine → List ℕ → Type 0) (files : Files) (hex : Bool) where
  -- an answer by others that agree by name is one by these
  pub Answers-same : (others : Files) → ((name : List ℕ) → others name ≡ files name)
      → (old : Machine) (it : SessionCommand) (lines : List ℕ) (new : Machine)
      → Answers says others hex old it lines new → Answers says files hex old it lines new
  Answers-same others same old (command.Edit edit) lines new answers = answers
  Answers-same others same old (command.Group edits) lines new answers = answers
  Answers-same others same old (command.Load path) lines new answers =
      (answers.0, rw (same path.now) at answers.1, answers.2)
  Answers-same others same old (command.Unit number) lines new answers = answers
  Answers-same others same old (command.Json number) lines new answers = answers
  Answers-same others same old command.Take lines new answers = answers
  Answers-same others same old (command.TakeFor number) lines new answers = answers
  Answers-same others same old (command.Land number) lines new answers = answers
  Answers-same others same old (command.GiveBack number) lines new answers = answers
  Answers-same others same old command.Settle lines new answers = answers
  Answers-same others same old (command.SettleFor number) lines new answers = answers
  Answers-same others same old (command.Show number) lines new answers = answers
  Answers-same others same old (command.Drop number) lines new answers = answers
  Answers-same others same old command.Clear lines new answers = answers
  Answers-same others same old command.Mark lines new answers = answers
  Answers-same others same old (command.Altered number) lines new answers = answers
