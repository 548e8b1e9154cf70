-- The run of a script's commands on a session, and what it writes (docs/OUTPUT.md).
use Rattle.std.specs.Prelude.{◌≡◌, ℕ, ◌-◌, ◌≤◌, Bool, List, [], ◌∷◌, length, Result, Ok, Err, Option, Some, None, IfSome, ◌⊎◌}
use Rattle.annexb.specs.ByteStream.{joined}
use Rattle.stream_edits.specs.declared.edits.Edit.TheVariants.{Insert}
use Rattle.stream_edits.specs.declared.receipts.Receipt.{Receipt}
use Rattle.stream_edits.specs.declared.refusals.EditRefused.{EditRefused}
use Rattle.stand_in_session.specs.declared.commands.Command.{Command as Call}
use Rattle.stand_in_session.specs.declared.commands.Command.TheVariants as told
use Rattle.stand_in_session.specs.declared.replies.Reply.{Reply}
use Rattle.stand_in_session.specs.declared.replies.Reply.TheVariants as replies
use Rattle.stream_session.specs.declared.showing.NoSuchUnit.{NoSuchUnit}
use Rattle.stand_in_session.specs.declared.replies.TakenJob.{TakenJob}
use Rattle.stand_in_session.specs.declared.replies.UnitReport.{UnitReport}
use Rattle.stream_edits.specs.Streams.{end_of, Stream}
use Rattle.stand_in_session.specs.Machines.{Machine}
use Rattle.stream_session.specs.Machines.{empty}
use Rattle.stand_in_session.specs.Runs.{Answers as Replies}
use Rattle.script_run.specs.Answers.{refused_line, loaded_line, reply_lines}
use Rattle.script_run.specs.JobLines.{settled_line}
use Rattle.script_run.specs.Marking.{Marks, SaysAltered}
use Rattle.script_run.specs.Sequences.{AreAnswered, AreWritten}
use Rattle.script_run.specs.Settling.{Settles}
use Rattle.script_run.specs.ToldUnits.{IsReportJson}
use Rattle.console_io.specs.Inputs.{Files}
use Rattle.access_unit.specs.StreamUnits.{IsStream, IsStreamRefused, most_units}
use Rattle.unit_printing.specs.declared.json.json_line.JsonLine.{JsonLine}
use Rattle.unit_printing.specs.Refusals.{refusal_text}
use Rattle.edit_script.specs.SessionScripts.{IsSessionScript}
use Rattle.edit_script.specs.Words.{id_of}
use Rattle.edit_script.specs.declared.session_commands.SessionCommand.{SessionCommand}
use Rattle.edit_script.specs.declared.session_commands.SessionCommand.TheVariants as command
use Rattle.access_unit.specs.declared.stream_units.Refusal.{Refusal}

-- the units that are left are inserted after the last one, each by an edit, of so many in all: to
-- the end, or to the first edit that is refused
abbrev pub InsertsAll : ℕ → Machine → List (List (List ℕ)) → List ℕ → Machine → Type 0
InsertsAll count old [] lines new = (lines ≡ loaded_line count) × (new ≡ old)
InsertsAll count old (part ∷ parts) lines new =
    ((receipt : Receipt) × (next : Machine)
    × Replies old (told.Edit (Insert (end_of old.register.stream) (joined part))) (replies.Edit (Ok receipt)) next
    × InsertsAll count next parts lines new)
    ⊎ ((refused : EditRefused)
    × Replies old (told.Edit (Insert (end_of old.register.stream) (joined part))) (replies.Edit (Err refused)) new
    × (lines ≡ refused_line refused))

-- for how many more units a stream has room
abbrev pub capacity_of : Stream → ℕ
capacity_of stream = most_units - length stream

-- a text is loaded: its units are inserted, or it is refused and nothing changes
abbrev pub Loads : Machine → List ℕ → List ℕ → Machine → Type 0
Loads old text lines new =
    ((parts : List (List (List ℕ))) × IsStream text parts × (length parts ≤ capacity_of old.register.stream)
    × InsertsAll (length parts) old parts lines new)
    ⊎ ((refusal : Refusal) × IsStreamRefused text (capacity_of old.register.stream) refusal
    × (lines ≡ refusal_text refusal) × (new ≡ old))

-- the session replies to what it is told, and the lines are those of its reply, with a picture's
-- digits or without; the number is the one asked for
abbrev pub Follows : Bool → Machine → Call → ℕ → List ℕ → Machine → Type 0
Follows hex old told number lines new =
    (reply : Reply) × Replies old told reply new × (reply_lines hex number reply ≡ Some lines)

module _ (says : JsonLine → List ℕ → Type 0) where
  -- the session reports the unit's outcome of a number, and a text says it as JSON, with what is told
  -- of its doubt
  abbrev pub SaysUnit : Machine → ℕ → List ℕ → Machine → Type 0
  SaysUnit old number text new =
      (report : Result UnitReport NoSuchUnit) × Replies old (told.Unit (id_of number)) (replies.Unit report) new
      × ((line : JsonLine) × IsReportJson old.register.stream number report line × says line text)

  -- a command is answered by the lines, and leads from one state of the session to the other
  abbrev pub Answers : Files → Bool → Machine → SessionCommand → List ℕ → Machine → Type 0
  Answers files hex old (command.Edit edit) lines new = Follows hex old (told.Edit edit) 0 lines new
  Answers files hex old (command.Group edits) lines new = Follows hex old (told.Group edits) 0 lines new
  Answers files hex old (command.Load path) lines new =
      (text : List ℕ) × IfSome (files path.now) (λ bytes. text ≡ bytes) × Loads old text lines new
  Answers files hex old (command.Unit number) lines new = Follows hex old (told.Unit (id_of number)) number lines new
  Answers files hex old (command.Json number) lines new = SaysUnit old number lines new
  Answers files hex old command.Take lines new = Follows hex old told.Take 0 lines new
  Answers files hex old (command.TakeFor number) lines new = Follows hex old (told.TakeFor (id_of number)) number lines new
  Answers files hex old (command.Land number) lines new = Follows hex old (told.Land number) number lines new
  Answers files hex old (command.GiveBack number) lines new = Follows hex old (told.GiveBack number) number lines new
  Answers files hex old command.Settle lines new =
      (jobs : List TakenJob) × Settles None old jobs new × (lines ≡ settled_line)
  Answers files hex old (command.SettleFor number) lines new =
      (jobs : List TakenJob) × Settles (Some (id_of number)) old jobs new × (lines ≡ settled_line)
  Answers files hex old (command.Show number) lines new = Follows hex old (told.Show (id_of number)) number lines new
  Answers files hex old (command.Drop number) lines new = Follows hex old (told.Drop (id_of number)) number lines new
  Answers files hex old command.Clear lines new = Follows hex old told.ClearCache 0 lines new
  Answers files hex old command.Mark lines new = Marks old lines new
  Answers files hex old (command.Altered number) lines new = SaysAltered old number lines × (new ≡ old)

  -- the commands are answered one after the other, by these lines in all
  abbrev pub Runs : Files → Bool → Machine → List SessionCommand → List ℕ → Machine → Type 0
  Runs files hex from commands lines to = AreAnswered (Answers files hex) from commands lines to

  -- the lines that answer the commands were written
  abbrev pub WritesRun : Files → Bool → Machine → List SessionCommand → Machine → Option (List ℕ) → Option (List ℕ) → Type 0
  WritesRun files hex from commands to old new = AreWritten (Answers files hex) from commands to old new

  -- the text is a script, and what answers its commands was written: they were run from the empty
  -- stream, for a cache of this room, and pictures have their digits or not
  pub record WritesScript (files : Files) (text : List ℕ) (capacity : ℕ) (hex : Bool) (old new : Option (List ℕ)) : Type 0 where
    pub commands : List SessionCommand
    pub last : Machine
    pub read : IsSessionScript text commands
    pub answered : WritesRun files hex (empty capacity) commands last old new
