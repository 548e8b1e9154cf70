-- What standard error says in words behind a failure (docs/OUTPUT.md).
use Rattle.std.specs.Prelude.{◌≡◌, ◌⊎◌, ℕ, List, [], Option, None, Some}
use Rattle.clap.specs.Words.{Text}
use Rattle.console_io.specs.Inputs.{Files}
use Rattle.failure_reasons.specs.FailureReasonsLines.{MayHaveFile}
use Rattle.failure_reasons.specs.Loads.{AreScriptLines}
use Rattle.failure_reasons.specs.declared.script_reasons.explaining.ScriptKind.{ScriptKind}
use Rattle.failure_reasons.specs.declared.script_reasons.explaining.ScriptKind.TheVariants.{Session, Seat, Edits}
use Rattle.cli.specs.CommandLine.{Wanted, audit, check, draw, draw_edited, mend, plan, run, serve, wanted_in}

-- what a script is for that is run in one thread, or beside so many workers
abbrev pub kind_beside : Option ℕ → ScriptKind
kind_beside None = Session
kind_beside (Some workers) = Seat

-- the lines say why the files and the script of what is asked for aren't taken, as far as anything is
-- said of them
abbrev pub AreReasons : Files → Wanted → List ℕ → Type 0
AreReasons files (plan name mode) lines = MayHaveFile (files name) name lines
AreReasons files (mend name) lines = lines ≡ []
AreReasons files (check name json) lines = lines ≡ []
AreReasons files (draw name from units) lines = MayHaveFile (files name) name lines
AreReasons files (draw_edited name script from units) lines =
    MayHaveFile (files name) name lines ⊎ AreScriptLines Edits files script lines
AreReasons files (run name workers capacity hex) lines = AreScriptLines (kind_beside workers) files name lines
AreReasons files (audit name workers capacity) lines = AreScriptLines Seat files name lines
AreReasons files (serve workers capacity journal) lines = lines ≡ []

-- nothing is said, or that of what the words ask for
abbrev pub MayHaveReasons : Files → List Text → List ℕ → Type 0
MayHaveReasons files words lines =
    (lines ≡ []) ⊎ ((wanted : Wanted) × (wanted_in words ≡ Some wanted) × AreReasons files wanted lines)
