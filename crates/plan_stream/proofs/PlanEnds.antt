-- What was written of a text, by how its plan ended.
use Rattle.std.proofs.Common.{inl, inr, ℕ, List, Option, refl}
use Rattle.std.specs.Io.KnownBytes.{Keeps}
use Rattle.std.specs.Prelude.{Err, IsErrOf}
use Rattle.access_unit.specs.StreamUnits.{IsStreamRefused, most_units}
use Rattle.access_unit.specs.declared.stream_units.Refusal.{Refusal}
use Rattle.console_io.specs.Chunks.{AppendsFront}
use Rattle.console_io.specs.declared.chunks.PrintFault.{PrintFault}
use Rattle.console_io.specs.declared.chunks.PrintFault.TheVariants as print
use Rattle.unit_printing.specs.Refusals.{refusal_text}
use Rattle.plan_stream.specs.Faults.{fault_of_print}
use Rattle.plan_stream.specs.Gathering.{IsFoldOfStream}
use Rattle.plan_stream.specs.Plans.{EndsBy, IsPlanned, IsRefused}
use Rattle.plan_stream.specs.Streams.{numbered_from}
use Rattle.plan_stream.specs.StreamText.{stream_text}

-- the lines of a stream that was folded
pub planned : {F : Type 0} (folds : List (List (List ℕ)) → F → Type 0) (text : List ℕ) (fold : F) (is : IsFoldOfStream folds text fold)
    → IsPlanned text (stream_text (numbered_from 1 is.parts))
planned folds text fold is = record { parts = is.parts; stream = is.stream; bounded = is.bounded; lines_are = refl }

-- the line of one that is refused
pub refused : (text : List ℕ) (refusal : Refusal) → IsStreamRefused text most_units refusal → IsRefused text (refusal_text refusal)
refused text refusal is = record { refusal = refusal; refused = is; lines_are = refl }

-- a prefix of the lines of its units, where they aren't printed whole
pub ends-print : {T : Type 0} (text lines : List ℕ) (old new : Option (List ℕ)) (refuses : Type 0) (fault : PrintFault)
    → IsPlanned text lines → AppendsFront old new lines → (IsErrOf {T = T} (Err fault) print.Unwritten → refuses)
    → EndsBy text (fault_of_print fault) refuses old new
ends-print text lines old new refuses print.Memory is front told = inr (lines, is, front)
ends-print text lines old new refuses print.Unwritten is front told = (told refl, inr (lines, inl is, front))

-- nothing of the line of its refusal where memory runs out, or a prefix of it
pub ends-refusal : {T : Type 0} (text lines : List ℕ) (old new : Option (List ℕ)) (refuses : Type 0) (fault : PrintFault)
    → IsRefused text lines → AppendsFront old new lines → (IsErrOf {T = T} (Err fault) print.Unwritten → refuses)
    → (IsErrOf {T = T} (Err fault) print.Memory → Keeps old new) → EndsBy text (fault_of_print fault) refuses old new
ends-refusal text lines old new refuses print.Memory is front told kept = inl (kept refl)
ends-refusal text lines old new refuses print.Unwritten is front told kept = (told refl, inr (lines, inr is, front))
