-- What a profile sends (ITU-T H.264, 7.3.2.1.1).
use Rattle.std.specs.Prelude.{◌==◌, Bool, ◌||◌}
use Rattle.h264_types.specs.declared.param_sets.sps.Sps.{Sps}

-- a profile with a chroma format, bit depths and scaling lists
abbrev pub is_high : Sps → Bool
is_high s = s.profile_idc == 100 || s.profile_idc == 110 || s.profile_idc == 122
