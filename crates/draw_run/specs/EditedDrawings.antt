-- What `draw --edits` writes of a text and a script (docs/OUTPUT.md).
use Rattle.std.specs.Prelude.{◌≡◌, ℕ, true, List, [], length, Option, ◌⊎◌}
use Rattle.std.specs.Io.KnownBytes.{Appends, Keeps}
use Rattle.access_unit.specs.StreamUnits.{IsStreamRefused, most_units}
use Rattle.access_unit.specs.declared.stream_units.Refusal.{Refusal}
use Rattle.console_io.specs.Chunks.{AppendsFront}
use Rattle.console_io.specs.Messages.{out_of_memory}
use Rattle.stand_in_session.specs.Machines.{Machine}
use Rattle.edit_script.specs.EditScripts.{HasFirstWrongForEdits, IsEditScript}
use Rattle.edit_script.specs.declared.edit_commands.EditCommand.{EditCommand}
use Rattle.edit_script.specs.declared.script.ScriptFault.{ScriptFault}
use Rattle.edit_script.specs.declared.script.ScriptFault.TheVariants as scripts
use Rattle.script_run.specs.Messages.{script_fault_text}
use Rattle.stream_edits.specs.Streams.{ids_of}
use Rattle.unit_outcomes.specs.InDoubt.{AreDoubts}
use Rattle.unit_outcomes.specs.declared.doubts.walk.Doubt.{Doubt}
use Rattle.stream_session.specs.Altered.{with_mark}
use Rattle.stream_session.specs.Doubting.{seen_in}
use Rattle.stream_svg.specs.Pages.{document_text}
use Rattle.stream_svg.specs.declared.writing.Caption.{Caption}
use Rattle.stream_svg.specs.declared.layout.Layout.{Layout}
use Rattle.stream_svg.specs.declared.unit.DrawnUnit.{DrawnUnit}
use Rattle.unit_printing.specs.Refusals.{refusal_text}
use Rattle.draw_run.specs.Layouts.{IsLaidOut}
use Rattle.draw_run.specs.Choosing.{chosen_ids, start_among}
use Rattle.draw_run.specs.Loading.{IsHeld}
use Rattle.draw_run.specs.Making.{AreMade}
use Rattle.draw_run.specs.Marks.{AreShownAs}
use Rattle.draw_run.specs.declared.fault.EditsFault.{EditsFault}
use Rattle.draw_run.specs.declared.fault.EditsFault.TheVariants.{Script, Refused, Memory, Unwritten}

-- the document is that of so many units of a session's stream, from the first or from an id on, in
-- stream order: each is drawn by the stream as it is, and by what it was when it was marked
pub record IsDrawnOf (from : Option ℕ) (units : ℕ) (after : Machine) (document : List ℕ) : Type 0 where
  pub doubts : List Doubt
  pub doubts_are : AreDoubts (seen_in after.register.stream) (start_among from (ids_of after.register.stream))
      (length (chosen_ids from units (ids_of after.register.stream))) doubts
  pub drawn : List DrawnUnit
  pub captions : List Caption
  pub shown : AreShownAs after (chosen_ids from units (ids_of after.register.stream)) doubts drawn captions
  pub layout : Layout
  pub laid_out : IsLaidOut drawn layout
  pub document_is : document ≡ document_text layout drawn captions (length (ids_of after.register.stream)) true

-- the document shows the text's stream after the script's edits, which were made when all its
-- pictures were held and it was marked, and this is told of the edits that are refused
pub record IsDrawnAfter (from : Option ℕ) (units : ℕ) (text script document told : List ℕ) : Type 0 where
  pub before : Machine
  pub held : IsHeld text before
  pub commands : List (ℕ × EditCommand)
  pub read : IsEditScript script commands
  pub after : Machine
  pub made : AreMade (with_mark before) commands told after
  pub drawn : IsDrawnOf from units after document

-- one such document was written, and this is to be told
abbrev pub WritesEdited : Option ℕ → ℕ → List ℕ → List ℕ → List ℕ → Option (List ℕ) → Option (List ℕ) → Type 0
WritesEdited from units text script told old new =
    (document : List ℕ) × IsDrawnAfter from units text script document told × Appends old new document

-- nothing was written, or a prefix of the line of the text's refusal or of such a document
abbrev pub WritesFront : Option ℕ → ℕ → List ℕ → List ℕ → Option (List ℕ) → Option (List ℕ) → Type 0
WritesFront from units text script old new =
    Keeps old new
    ⊎ ((refusal : Refusal) × IsStreamRefused text most_units refusal × AppendsFront old new (refusal_text refusal))
    ⊎ ((document told : List ℕ) × IsDrawnAfter from units text script document told × AppendsFront old new document)

-- what was written where the drawing ended by this fault: nothing where a line of the script is
-- wrong, the whole line of the text's refusal, nothing or a prefix where memory runs out or the
-- writer refused
abbrev pub EndsBy : Option ℕ → ℕ → List ℕ → List ℕ → EditsFault → Type 0 → Option (List ℕ) → Option (List ℕ) → Type 0
EndsBy from units text script (Script number) refused old new = HasFirstWrongForEdits script number × Keeps old new
EndsBy from units text script (Refused refusal) refused old new =
    IsStreamRefused text most_units refusal × Appends old new (refusal_text refusal)
EndsBy from units text script Memory refused old new = Keeps old new
EndsBy from units text script Unwritten refused old new = refused × WritesFront from units text script old new

-- why nothing is drawn where the script isn't read
abbrev pub fault_of_script : ScriptFault → EditsFault
fault_of_script (scripts.Line number) = Script number
fault_of_script scripts.Memory = Memory

-- what is said of it on standard error; nothing where the stream's refusal is printed, or it is the
-- writer that takes no more
abbrev pub edits_fault_text : EditsFault → List ℕ
edits_fault_text (Script number) = script_fault_text number
edits_fault_text (Refused refusal) = []
edits_fault_text Memory = out_of_memory
edits_fault_text Unwritten = []
