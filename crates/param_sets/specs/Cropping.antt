-- The frame cropping rectangle of a sequence parameter set (ITU-T H.264, 7.3.2.1.1).
use Rattle.std.specs.Prelude.{◌≡◌, ℕ, ◌==◌, List, Result, Ok, Err, if◌then◌else◌}
use Rattle.h264_types.specs.Chains.{◌>>=◌}
use Rattle.expgolomb.specs.Bits.{Place, start}
use Rattle.expgolomb.specs.Reading.{fixed_at, ue_at}
use Rattle.expgolomb.specs.declared.fault.CodeFault.{CodeFault}
use Rattle.h264_types.specs.declared.param_sets.sps.Sps.{Sps}
use Rattle.param_sets.specs.SetCodes.{set_codes}
use Rattle.param_sets.specs.Skipping.{behind_all}
use Rattle.param_sets.specs.declared.cropping.codes.Code.{Code}
use Rattle.param_sets.specs.declared.cropping.cropping.Cropping.{Cropping}

-- the whole frame
abbrev pub nothing_cropped : Cropping
nothing_cropped = record { left = 0; right = 0; top = 0; bottom = 0 }

-- frame_crop_left_offset, frame_crop_right_offset, frame_crop_top_offset and frame_crop_bottom_offset
unfoldable pub offsets_at : Place → Result Cropping CodeFault
offsets_at p =
    ue_at p >>= λ left. ue_at left.1 >>= λ right. ue_at right.1 >>= λ top. ue_at top.1 >>= λ bottom.
    Ok (record { left = left.0; right = right.0; top = top.0; bottom = bottom.0 })

-- the offsets, where frame_cropping_flag is 1
abbrev pub cropping_by : ℕ × Place → Result Cropping CodeFault
cropping_by flag = if flag.0 == 0 then Ok nothing_cropped else offsets_at flag.1

-- frame_cropping_flag and the offsets behind these codes
unfoldable pub cropping_after : List Code → Place → Result Cropping CodeFault
cropping_after codes p = behind_all codes p >>= λ q. fixed_at 1 q >>= cropping_by

-- nothing is cropped where they aren't there
abbrev pub or_nothing : Result Cropping CodeFault → Cropping
or_nothing (Ok cropping) = cropping
or_nothing (Err fault) = nothing_cropped

-- the rectangle in the payload of a NAL unit from which this set was read
abbrev pub cropping_in : List ℕ → Sps → Cropping
cropping_in payload sps = or_nothing (cropping_after (set_codes sps) (start payload))

-- a call answers what is read
abbrev pub Answers : Result Cropping CodeFault → Result Cropping CodeFault → Type 0
Answers result read = read ≡ result
