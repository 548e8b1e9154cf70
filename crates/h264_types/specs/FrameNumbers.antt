-- The modulus of frame numbers (ITU-T H.264, 7.4.2.1.1).
use Rattle.std.specs.Prelude.{ℕ, ◌+◌, ◌^◌}
use Rattle.h264_types.specs.declared.param_sets.sps.Sps.{Sps}

-- MaxFrameNum (7-10)
abbrev pub max_frame_num : Sps → ℕ
max_frame_num sps = 2 ^ (sps.log2_max_frame_num_minus4 + 4)
