-- Steps of marking: how a set of frames and the set after it belong together, or the fault (ITU-T H.264, 8.2.5).
use Rattle.std.specs.Prelude.{◌≡◌, ◌++◌, ◌∷◌, ◌⊎◌, List, All, Result, Ok, Err}
use Rattle.slice_decoding.specs.declared.ref_marking.fault.MarkFault.{MarkFault}
use Rattle.h264_types.specs.declared.pictures.frames.Frame.{Frame}
use Rattle.h264_types.specs.MarkedFrames.{Marked}

-- a relation between a set before and after
abbrev pub Step : Type 1
Step = Marked → Result Marked MarkFault → Type 0

-- nothing changes
abbrev pub Stays : Step
Stays before result = result ≡ Ok before

-- one step, and then another with the set that it leaves; the first fault ends them
abbrev pub Then : Step → Step → Step
Then First Second before result =
    ((between : Marked) × First before (Ok between) × Second between result)
    ⊎ ((fault : MarkFault) × First before (Err fault) × (result ≡ Err fault))

-- a frame among others, in decode order
pub record Place : Type 0 where
  pub earlier : List Frame
  pub frame : Frame
  pub later : List Frame

-- the first frame in decode order that is so
pub record IsFirst (IsSo : Frame → Type 0) (frames : List Frame) (place : Place) : Type 0 where
  pub frames_are : frames ≡ place.earlier ++ place.frame ∷ place.later
  pub is_so : IsSo place.frame
  pub none_before : All (λ frame. ¬ IsSo frame) place.earlier

-- the first frame that is so is freed; where none is so, there is the fault
abbrev pub Frees : (Frame → Type 0) → MarkFault → Step
Frees IsSo fault before (Ok after) =
    (place : Place) × IsFirst IsSo before.frames place × (after ≡ record before { frames = place.earlier ++ place.later })
Frees IsSo fault before (Err error) = (error ≡ fault) × All (λ frame. ¬ IsSo frame) before.frames
