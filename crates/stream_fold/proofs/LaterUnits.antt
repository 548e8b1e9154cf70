-- The keys of units depend on those of the marked frames alone.
use Rattle.std.proofs.Common.{◌≡◌, ℕ, zero, suc, List, [], ◌∷◌, map, take, drop, refl, sym, subst}
use Rattle.std.proofs.lemmas.List.Elements.{All-nil, All-cons, All-head, All-tail}
use Rattle.h264_types.specs.declared.pictures.frames.Frame.{Frame}
use Rattle.request_core.specs.States.{FoldState, no_units, marked_ids}
use Rattle.request_core.specs.Fold.{fold_step}
use Rattle.request_core.specs.Agreement.{Stream, state_from}
use Rattle.picture_keys.specs.Known.{Known, key_at}
use Rattle.picture_keys.specs.Depending.{DependOn}
use Rattle.picture_keys.specs.Depending as ids
use Rattle.stream_fold.specs.Agreement.{becoming}
use Rattle.stream_fold.proofs.AlikeKeys.{AreAlike, IsAlike}
use Rattle.stream_fold.proofs.Agreement.{becoming_from, alike_over}

-- the units from a place on are those that follow the state there
later : (state : FoldState) (units : Stream) (place : ℕ)
    → drop place (becoming_from state units) ≡ becoming_from (state_from state (take place units)) (drop place units)
later state units zero = refl
later state [] (suc place) = refl
later state (unit ∷ units) (suc place) = later (fold_step state unit.0 unit.1).0 units place

-- where the keys of the units are the same, so are those of the frames
frames_alike : (known other : Known) (frames : List Frame) → ids.AreAlike known other (map (λ frame. frame.id) frames)
    → AreAlike known other frames
frames_alike known other [] all = All-nil (λ (frame : Frame). IsAlike known other frame.id)
frames_alike known other (frame ∷ frames) all =
    let rest = map (λ (frame : Frame). frame.id) frames in
    All-cons (λ (frame : Frame). IsAlike known other frame.id) frame frames
    (All-head (λ (id : ℕ). key_at known id ≡ key_at other id) frame.id rest all)
    (frames_alike known other frames (All-tail (λ (id : ℕ). key_at known id ≡ key_at other id) frame.id rest all))

pub depend_on_marked : (stream : Stream) (place : ℕ)
    → DependOn (marked_ids (state_from no_units (take place stream))) (drop place (becoming stream))
depend_on_marked stream place =
    let state = state_from no_units (take place stream) in
    subst (DependOn (marked_ids state)) (sym (later no_units stream place))
    (λ known other all.
    (alike_over known other state (drop place stream) (frames_alike known other state.marks.frames all)).keys)
