-- The units of a stream can be decoded one after the other.
use Rattle.std.proofs.Common.{◌≡◌, ℕ, List, [], ◌∷◌, map, All, None}
use Rattle.std.specs.List.{zip}
use Rattle.std.proofs.lemmas.List.Elements.{All-nil, All-head, All-tail}
use Rattle.access_unit.specs.Refusals.{refusal_of}
use Rattle.h264_types.specs.declared.pictures.frames.Frame.{Frame}
use Rattle.request_core.specs.States.{FoldState, no_units}
use Rattle.request_core.specs.Fold.{fold_step, outcomes_from, outcomes_of}
use Rattle.picture_keys.specs.Known.{Known, key_of_outcome, known_with}
use Rattle.picture_keys.specs.Decodable.{AllCanDecode}
use Rattle.stream_fold.proofs.KnownUnits.{IsKnown, AreKnown}
use Rattle.stream_fold.proofs.Plans.{step_goes_on}

-- units, each with its id
abbrev pub Stream : Type 0
Stream = List (ℕ × List (List ℕ))

-- a unit isn't refused
abbrev pub IsNotRefused : ℕ × List (List ℕ) → Type 0
IsNotRefused unit = refusal_of unit.1 ≡ None

-- after a state whose frames are of units that are known
pub AllCanDecode-outcomes_from : (known : Known) (state : FoldState) (stream : Stream) → AreKnown known state.marks.frames → All IsNotRefused stream
    → AllCanDecode known (zip (map (λ unit. unit.0) stream) (outcomes_from state stream))
AllCanDecode-outcomes_from known state [] known_frames accepted = tt
AllCanDecode-outcomes_from known state (unit ∷ units) known_frames accepted =
    let step = fold_step state unit.0 unit.1 in
    let goes_on = step_goes_on known state unit.0 unit.1 known_frames (All-head IsNotRefused unit units accepted) in
    (goes_on.can, AllCanDecode-outcomes_from (known_with known unit.0 (key_of_outcome known step.1)) step.0 units goes_on.are_known (All-tail IsNotRefused unit units accepted))

-- from the first unit on
pub AllCanDecode-outcomes_of : (stream : Stream) → All IsNotRefused stream → AllCanDecode [] (zip (map (λ unit. unit.0) stream) (outcomes_of stream))
AllCanDecode-outcomes_of stream accepted =
    AllCanDecode-outcomes_from [] no_units stream (All-nil (λ (frame : Frame). IsKnown [] frame.id)) accepted
