-- What the program does with the words of a command line, on files and a standard input
-- (docs/OUTPUT.md).
use Rattle.std.specs.Prelude.{◌≡◌, ◌≢◌, ◌⊎◌, ◌++◌, ℕ, Bool, List, [], Option, None, Some, IfSome, Result, ⊤}
use Rattle.std.specs.Io.KnownBytes.{Appends, Keeps}
use Rattle.clap.specs.Words.{Text}
use Rattle.console_io.specs.Chunks.{AppendsFront}
use Rattle.console_io.specs.Inputs.{Files, text_named}
use Rattle.console_io.specs.Messages.{Tells, input_fault_text, out_of_memory}
use Rattle.console_io.specs.declared.chunks.PrintFault.{PrintFault}
use Rattle.console_io.specs.declared.input.InputFault.{InputFault}
use Rattle.console_io.specs.declared.status.Ended.{Ended}
use Rattle.console_io.specs.declared.status.Status.TheVariants.{Failure, Success, Usage}
use Rattle.draw_run.specs.EditedDrawings.{EndsBy as EndsEdited, WritesEdited, edits_fault_text}
use Rattle.draw_run.specs.declared.fault.EditsFault.{EditsFault}
use Rattle.draw_run.specs.Drawings.{EndsBy as EndsDrawing, WritesDrawing}
use Rattle.unit_printing.specs.Ends.{FailsJson, WritesJsonFor}
use Rattle.plan_stream.specs.Faults.{plan_fault_text}
use Rattle.plan_stream.specs.Plans.{EndsBy, WritesPlan}
use Rattle.plan_stream.specs.declared.fault.PlanFault.{PlanFault}
use Rattle.stream_check.specs.CheckResult.{IsFine}
use Rattle.stream_mending.specs.Mended.{mended, told as told_of}
use Rattle.stream_mending.specs.Mending.{IsFrontOf}
use Rattle.stream_mending.specs.declared.why.LeftOut.{LeftOut}
use Rattle.mend_run.specs.Runs.{EndsBy as EndsMending, mend_fault_text, mend_lines, told_text}
use Rattle.mend_run.specs.declared.running.MendFault.{MendFault}
use Rattle.script_run.specs.Audits.{FailsAudit, WritesAgreed}
use Rattle.script_run.specs.SharedRunning.{WritesScript as WritesSeatScript}
use Rattle.script_run.specs.SharedStops.{StopsBy as StopsSeatBy}
use Rattle.script_run.specs.Messages.{run_fault_text}
use Rattle.script_run.specs.Running.{WritesScript}
use Rattle.script_run.specs.Stops.{StopsBy}
use Rattle.script_run.specs.declared.run_fault.RunFault.{RunFault}
use Rattle.unit_printing.specs.declared.json.json_line.JsonLine.{JsonLine}
use Rattle.cli.specs.CommandLine.{HasOne, IsRequest, Wanted, audit, check, draw, draw_edited, faults_of, mend, plan, run, serve, wanted_in}
use Rattle.edit_journal.specs.declared.fault.JournalFault.{JournalFault}
use Rattle.serve_run.specs.Ends.{end_text, journal_fault_text}
use Rattle.serve_run.specs.declared.end.ServeEnd.{ServeEnd}

-- nothing is known of the text that says a line as JSON
abbrev pub says_json : JsonLine → List ℕ → Type 0
says_json line text = ⊤

-- a script was run: by a session in one thread, or by a desk's only seat beside workers
abbrev pub RunsScript : Option ℕ → Files → List ℕ → ℕ → Bool → Option (List ℕ) → Option (List ℕ) → Type 0
RunsScript None files text capacity hex old new = WritesScript says_json files text capacity hex old new
RunsScript (Some workers) files text capacity hex old new = WritesSeatScript files text hex old new

-- a script wasn't run to its end by this fault
abbrev pub StopsScript : Option ℕ → Files → List ℕ → List ℕ → ℕ → Bool → RunFault → Type 0
    → Option (List ℕ) → Option (List ℕ) → Type 0
StopsScript None files name text capacity hex fault refused old new =
    StopsBy says_json files name text capacity hex fault refused old new
StopsScript (Some workers) files name text capacity hex fault refused old new =
    StopsSeatBy files name text hex fault refused old new

-- what is asked for was done, of what its names stand for, and nothing was told; but of a drawing
-- after edits, what was refused of these, and of a stream that is mended, what was left out. Of a file
-- that is checked there is nothing to complain of then. Of what a
-- server writes nothing is said. Of the second output it is said whether it refused, and what it had
-- and has
abbrev pub IsDone : {T : Type 0} → Files → Option (List ℕ) → Wanted → Result T PrintFault → Option (List ℕ) → Option (List ℕ)
    → Type 0 → Option (List ℕ) → Option (List ℕ) → Type 0
IsDone files standard (plan name None) told old new mute had has =
    IfSome (text_named files standard name) (λ text. WritesPlan text old new) × Keeps had has
IsDone files standard (plan name (Some mode)) told old new mute had has =
    IfSome (text_named files standard name) (λ text. WritesJsonFor says_json mode text old new) × Keeps had has
IsDone files standard (mend name) told old new mute had has =
    IfSome (text_named files standard name) (λ text. Appends old new (mended text) × Tells told mute had has (mend_lines text))
IsDone files standard (check name json) told old new mute had has =
    IfSome (text_named files standard name) IsFine × Keeps had has
IsDone files standard (draw name from units) told old new mute had has =
    IfSome (text_named files standard name) (λ text. WritesDrawing from units text old new) × Keeps had has
IsDone files standard (draw_edited name script from units) told old new mute had has =
    (refusals : List ℕ)
    × IfSome (text_named files standard name) (λ text. IfSome (text_named files standard script) (λ edits.
    WritesEdited from units text edits refusals old new))
    × Tells told mute had has refusals
IsDone files standard (run name workers capacity hex) told old new mute had has =
    IfSome (text_named files standard name) (λ text. RunsScript workers files text capacity hex old new) × Keeps had has
IsDone files standard (audit name workers capacity) told old new mute had has =
    IfSome (text_named files standard name) (λ text. WritesAgreed files text old new) × Keeps had has
IsDone files standard (serve workers capacity journal) told old new mute had has = Keeps had has

-- it ended by a fault, which was told; of the two outputs it is said whether each refused, and what
-- it had and has
abbrev pub FailsAt : {T : Type 0} → Files → Option (List ℕ) → Wanted → Result T PrintFault
    → Type 0 → Option (List ℕ) → Option (List ℕ) → Type 0 → Option (List ℕ) → Option (List ℕ) → Type 0
FailsAt files standard (plan name (Some mode)) told refused old new mute had has =
    FailsJson says_json (text_named files standard name) name told refused old new mute had has
FailsAt files standard (plan name None) told refused old new mute had has =
    (fault : PlanFault) × IfSome (text_named files standard name) (λ text. EndsBy text fault refused old new)
    × Tells told mute had has (plan_fault_text name fault)
FailsAt files standard (mend name) told refused old new mute had has =
    (fault : MendFault) × (said : List LeftOut)
    × IfSome (text_named files standard name) (λ text. EndsMending text fault refused old new × IsFrontOf said (told_of text))
    × Tells told mute had has (told_text said ++ mend_fault_text name fault)
FailsAt files standard (check name json) told refused old new mute had has =
    (message : List ℕ) × Tells told mute had has message
FailsAt files standard (draw name from units) told refused old new mute had has =
    (fault : PlanFault) × IfSome (text_named files standard name) (λ text. EndsDrawing from units text fault refused old new)
    × Tells told mute had has (plan_fault_text name fault)
FailsAt files standard (draw_edited name script from units) told refused old new mute had has =
    ((fault : EditsFault)
    × IfSome (text_named files standard name) (λ text. IfSome (text_named files standard script) (λ edits.
    EndsEdited from units text edits fault refused old new))
    × Tells told mute had has (edits_fault_text fault))
    ⊎ ((fault : InputFault) × Keeps old new
    × (Tells told mute had has (input_fault_text name fault) ⊎ Tells told mute had has (input_fault_text script fault)))
FailsAt files standard (run name workers capacity hex) told refused old new mute had has =
    (fault : RunFault)
    × IfSome (text_named files standard name) (λ text.
    StopsScript workers files name text capacity hex fault refused old new)
    × Tells told mute had has (run_fault_text fault)
FailsAt files standard (audit name workers capacity) told refused old new mute had has =
    FailsAudit files name (text_named files standard name) told refused old new mute had has
FailsAt files standard (serve workers capacity None) told refused old new mute had has =
    (end : ServeEnd) × Tells told mute had has (end_text end)
FailsAt files standard (serve workers capacity (Some name)) told refused old new mute had has =
    ((end : ServeEnd) × Tells told mute had has (end_text end))
    ⊎ ((fault : JournalFault) × Keeps old new × Tells told mute had has (journal_fault_text name fault))

-- what is asked for was done, or ended by a fault, as the status says; it is never a wrong command line
pub record Ends (files : Files) (standard : Option (List ℕ)) (wanted : Wanted) (ended : Ended)
    (refused : Type 0) (old new : Option (List ℕ)) (mute : Type 0) (had has : Option (List ℕ)) : Type 0 where
  pub right : ended.status ≡ Success → IsDone files standard wanted ended.told old new mute had has
  pub fails : ended.status ≡ Failure → FailsAt files standard wanted ended.told refused old new mute had has
  pub usage : ended.status ≢ Usage

-- memory ran out for the words or for an answer to them: that was told, and nothing printed
abbrev pub WantsMemory : {T : Type 0} → Result T PrintFault → Option (List ℕ) → Option (List ℕ)
    → Type 0 → Option (List ℕ) → Option (List ℕ) → Type 0
WantsMemory told old new mute had has = Keeps old new × Tells told mute had has out_of_memory

-- the writer refused before a text was printed whole, and nothing was told
abbrev pub WritesPart : Type 0 → Option (List ℕ) → Option (List ℕ) → Option (List ℕ) → Option (List ℕ) → Type 0
WritesPart refused old new had has = refused × ((text : List ℕ) × AppendsFront old new text) × Keeps had has

-- the words ask for this, and have no fault
abbrev pub AskFor : List Text → Wanted → Type 0
AskFor words wanted = (wanted_in words ≡ Some wanted) × (faults_of words ≡ [])

-- what the words ask for was done, or they ask for help or the version, and a text was printed
abbrev pub Succeeds : {T : Type 0} → Files → Option (List ℕ) → List Text → Result T PrintFault
    → Option (List ℕ) → Option (List ℕ) → Type 0 → Option (List ℕ) → Option (List ℕ) → Type 0
Succeeds files standard words told old new mute had has =
    ((wanted : Wanted) × AskFor words wanted × IsDone files standard wanted told old new mute had has)
    ⊎ (HasOne IsRequest (faults_of words) × ((text : List ℕ) × Appends old new text) × Keeps had has)

-- what the words ask for failed, or memory ran out, or help or the version wasn't printed whole
abbrev pub Fails : {T : Type 0} → Files → Option (List ℕ) → List Text → Result T PrintFault
    → Type 0 → Option (List ℕ) → Option (List ℕ) → Type 0 → Option (List ℕ) → Option (List ℕ) → Type 0
Fails files standard words told refused old new mute had has =
    ((wanted : Wanted) × AskFor words wanted × FailsAt files standard wanted told refused old new mute had has)
    ⊎ WantsMemory told old new mute had has
    ⊎ (HasOne IsRequest (faults_of words) × WritesPart refused old new had has)
