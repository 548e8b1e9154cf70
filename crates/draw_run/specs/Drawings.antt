-- What `draw` writes of a text (docs/OUTPUT.md).
use Rattle.std.specs.Prelude.{◌≡◌, ℕ, ◌≤◌, Bool, false, List, length, Option, ◌⊎◌}
use Rattle.std.specs.Io.KnownBytes.{Appends, Keeps}
use Rattle.console_io.specs.Chunks.{AppendsFront}
use Rattle.access_unit.specs.StreamUnits.{IsStream, IsStreamRefused, most_units}
use Rattle.access_unit.specs.declared.stream_units.Refusal.{Refusal}
use Rattle.plan_stream.specs.declared.fault.PlanFault.{PlanFault}
use Rattle.plan_stream.specs.declared.fault.PlanFault.TheVariants.{Unread, Refused, Memory, Unwritten}
use Rattle.request_core.specs.Fold.{outcomes_of}
use Rattle.output_order.specs.OutputOrder.{positions_of}
use Rattle.unit_outcomes.specs.InDoubt.{AreDoubts}
use Rattle.unit_outcomes.specs.declared.doubts.walk.Doubt.{Doubt}
use Rattle.stream_session.specs.Doubting.{seen_in}
use Rattle.plan_stream.specs.Streams.{numbered_from}
use Rattle.stream_svg.specs.Pages.{document_text}
use Rattle.stream_svg.specs.declared.writing.Caption.{Caption}
use Rattle.stream_svg.specs.declared.layout.Layout.{Layout}
use Rattle.stream_svg.specs.declared.unit.DrawnUnit.{DrawnUnit}
use Rattle.unit_printing.specs.Refusals.{refusal_text}
use Rattle.draw_run.specs.Layouts.{IsLaidOut}
use Rattle.draw_run.specs.Chosen.{chosen, kept_from}
use Rattle.draw_run.specs.Shown.{AreShown}

-- the text is a stream, and the document is that of so many of its units from an id on: each drawn by its
-- outcome in the plain fold, by where in the output its picture stands, and by whether it is in doubt
pub record IsDrawn (from units : ℕ) (text document : List ℕ) : Type 0 where
  pub parts : List (List (List ℕ))
  pub stream : IsStream text parts
  pub bounded : length parts ≤ most_units
  pub doubts : List Doubt
  pub doubts_are : AreDoubts (seen_in (numbered_from 1 parts)) 0 (length parts) doubts
  pub drawn : List DrawnUnit
  pub captions : List Caption
  pub shown : AreShown (positions_of (outcomes_of (numbered_from 1 parts))) doubts
      (chosen from units (kept_from 1 (outcomes_of (numbered_from 1 parts)))) drawn captions
  pub layout : Layout
  pub laid_out : IsLaidOut drawn layout
  pub document_is : document ≡ document_text layout drawn captions (length parts) false

-- one document of the text was written
abbrev pub WritesDrawing : ℕ → ℕ → List ℕ → Option (List ℕ) → Option (List ℕ) → Type 0
WritesDrawing from units text old new = (document : List ℕ) × IsDrawn from units text document × Appends old new document

-- nothing was written, or a prefix of the line of the text's refusal or of a document of the text
abbrev pub WritesFront : ℕ → ℕ → List ℕ → Option (List ℕ) → Option (List ℕ) → Type 0
WritesFront from units text old new =
    Keeps old new
    ⊎ ((refusal : Refusal) × IsStreamRefused text most_units refusal × AppendsFront old new (refusal_text refusal))
    ⊎ ((document : List ℕ) × IsDrawn from units text document × AppendsFront old new document)

-- what was written of a text whose drawing ended by this fault: nothing where it wasn't read or
-- memory runs out, the whole line of its refusal, or a prefix where the writer refused
abbrev pub EndsBy : ℕ → ℕ → List ℕ → PlanFault → Type 0 → Option (List ℕ) → Option (List ℕ) → Type 0
EndsBy from units text Unread refused old new = Keeps old new
EndsBy from units text (Refused refusal) refused old new =
    IsStreamRefused text most_units refusal × Appends old new (refusal_text refusal)
EndsBy from units text Memory refused old new = Keeps old new
EndsBy from units text Unwritten refused old new = refused × WritesFront from units text old new
