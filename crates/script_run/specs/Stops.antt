-- How the run of a script ends before the script does (docs/OUTPUT.md).
use Rattle.std.specs.Prelude.{◌≡◌, ℕ, Bool, List, Option, ◌⊎◌}
use Rattle.std.specs.Borrow.{Bor}
use Rattle.std.specs.Io.KnownBytes.{Keeps}
use Rattle.console_io.specs.Inputs.{Files}
use Rattle.stand_in_session.specs.Machines.{Machine}
use Rattle.stream_session.specs.Machines.{empty}
use Rattle.edit_script.specs.SessionScripts.{HasFirstWrongForSession, IsSessionScript}
use Rattle.edit_script.specs.declared.session_commands.SessionCommand.{SessionCommand}
use Rattle.script_run.specs.Running.{Answers}
use Rattle.script_run.specs.RunFaults.{IsCommandFault}
use Rattle.script_run.specs.Sequences.{StopsAmong}
use Rattle.script_run.specs.declared.run_fault.RunFault.{RunFault}
use Rattle.script_run.specs.declared.run_fault.RunFault.TheVariants.{Unread, Script, Memory}
use Rattle.unit_printing.specs.declared.json.json_line.JsonLine.{JsonLine}

module _ (says : JsonLine → List ℕ → Type 0) where
  -- the commands stop at one of them: those before it were answered, and that was written
  abbrev pub StopsAt : Files → Bool → Machine → List SessionCommand → RunFault → Type 0 → Option (List ℕ) → Option (List ℕ) → Type 0
  StopsAt files hex from commands fault refused old new =
      StopsAmong (Answers says files hex) IsCommandFault from commands fault refused old new

  -- a text isn't run to its end: there is no memory for its commands, this line is the first that
  -- is no command of a session, or its commands stop
  abbrev pub StopsText : Files → List ℕ → ℕ → Bool → RunFault → Type 0 → Option (List ℕ) → Option (List ℕ) → Type 0
  StopsText files text capacity hex fault refused old new =
      ((fault ≡ Memory) × Keeps old new)
      ⊎ ((number : ℕ) × HasFirstWrongForSession text number × (fault ≡ Script number) × Keeps old new)
      ⊎ ((commands : List SessionCommand) × IsSessionScript text commands
      × StopsAt files hex (empty capacity) commands fault refused old new)

  -- the script of this name and text isn't run to its end by this fault: it can't be read, or its
  -- text isn't run
  abbrev pub StopsBy : Files → List ℕ → List ℕ → ℕ → Bool → RunFault → Type 0 → Option (List ℕ) → Option (List ℕ) → Type 0
  StopsBy files name text capacity hex fault refused old new =
      ((lent : Bor (List ℕ)) × (lent.now ≡ name) × (fault ≡ Unread lent) × Keeps old new)
      ⊎ StopsText files text capacity hex fault refused old new
