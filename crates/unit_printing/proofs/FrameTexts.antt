-- Marked frames are the entries of the decoded picture buffer with the units of the references.
use Rattle.std.proofs.Common.{◌≡◌, ℕ, List, [], ◌∷◌, ◌++◌, flat_map, map, refl, ap}
use Rattle.std.specs.List.{zip}
use Rattle.h264_controls.specs.DecodeParamsControl.{dpb_entry}
use Rattle.h264_types.specs.declared.pictures.frames.Frame.{Frame}
use Rattle.h264_types.specs.declared.param_sets.sps.Sps.{Sps}
use Rattle.unit_printing.specs.Frames.{frame_text, next_frame_text}
use Rattle.unit_printing.specs.Lines.{entry_text, list_text, next_text}

more_frames : (sps : Sps) (frame_num : ℕ) (frames : List Frame)
    → flat_map next_text (zip (map (λ frame. frame.id) frames) (map (dpb_entry sps frame_num) frames))
    ≡ flat_map (next_frame_text sps frame_num) frames
more_frames sps frame_num [] = refl
more_frames sps frame_num (frame ∷ frames) = ap (λ rest. next_frame_text sps frame_num frame ++ rest) (more_frames sps frame_num frames)

pub same_frames : (sps : Sps) (frame_num : ℕ) (frames : List Frame)
    → list_text entry_text (zip (map (λ frame. frame.id) frames) (map (dpb_entry sps frame_num) frames))
    ≡ list_text (frame_text sps frame_num) frames
same_frames sps frame_num [] = refl
same_frames sps frame_num (frame ∷ frames) = ap (λ rest. frame_text sps frame_num frame ++ rest) (more_frames sps frame_num frames)
