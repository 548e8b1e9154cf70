-- Sequence parameter sets in words (7.4.2.1.1, annex A).
use Rattle.std.specs.Prelude.{ℕ, ◌+◌, ◌/◌, ◌%◌, ◌==◌, ◌&&◌, ◌++◌, Bool, List, codes, decimal, slice_index_or, false, if◌then◌else◌}
use Rattle.h264_types.specs.Profiles.{is_high}
use Rattle.h264_types.specs.declared.param_sets.sps.Sps.{Sps}
use Rattle.h264_types.specs.declared.param_sets.sps.ChromaFormat.{ChromaFormat}
use Rattle.h264_types.specs.declared.param_sets.sps.ChromaFormat.TheVariants.{Monochrome, Yuv420, Yuv422}
use Rattle.h264_types.specs.declared.param_sets.sps.PicOrderCntType.{PicOrderCntType}
use Rattle.h264_types.specs.declared.param_sets.sps.PicOrderCntType.TheVariants as order
use Rattle.param_sets.specs.declared.cropping.size.Size.{Size}
use Rattle.stream_check.specs.declared.set_words.SetWords.{SetWords}
use Rattle.stream_check.specs.declared.set_words.Level.{Level}
use Rattle.stream_check.specs.declared.set_words.Profile.{Profile}
use Rattle.stream_check.specs.declared.set_words.Profile.TheVariants.{Baseline, ConstrainedBaseline, Main, High, High10, High422}

-- the profile
abbrev pub profile_of : Sps → Profile
profile_of sps = if sps.profile_idc == 66 then (if slice_index_or sps.constraint_set_flags 1 false then ConstrainedBaseline else Baseline)
    else if sps.profile_idc == 77 then Main else if sps.profile_idc == 110 then High10
    else if sps.profile_idc == 122 then High422 else High

-- whether it is level 1b
abbrev pub is_1b : Sps → Bool
is_1b sps = if is_high sps then sps.level_idc == 9 else (sps.level_idc == 11 && slice_index_or sps.constraint_set_flags 3 false)

-- the level
abbrev pub level_of : Sps → Level
level_of sps = record { level_idc = sps.level_idc; is_1b = is_1b sps }

-- pic_order_cnt_type as a number
abbrev pub order_count_type : PicOrderCntType → ℕ
order_count_type order.Zero = 0
order_count_type order.One = 1
order_count_type order.Two = 2

-- what a set says, whose frames have this size after cropping
abbrev pub set_words : Sps → Size → SetWords
set_words sps size = record {
  seq_parameter_set_id = sps.seq_parameter_set_id;
  profile = profile_of sps;
  level = level_of sps;
  width = size.width;
  height = size.height;
  chroma = sps.chroma_format_idc;
  luma_bits = sps.bit_depth_luma_minus8 + 8;
  chroma_bits = sps.bit_depth_chroma_minus8 + 8;
  frame_num_bits = sps.log2_max_frame_num_minus4 + 4;
  pic_order_cnt_type = order_count_type sps.pic_order_cnt_type;
  max_num_ref_frames = sps.max_num_ref_frames;
}

-- what a chroma format is called
abbrev pub chroma_words : ChromaFormat → List ℕ
chroma_words Monochrome = codes "monochrome"
chroma_words Yuv420 = codes "4:2:0"
chroma_words Yuv422 = codes "4:2:2"

-- what a profile is called
abbrev pub profile_words : Profile → List ℕ
profile_words Baseline = codes "Baseline"
profile_words ConstrainedBaseline = codes "Constrained Baseline"
profile_words Main = codes "Main"
profile_words High = codes "High"
profile_words High10 = codes "High 10"
profile_words High422 = codes "High 4:2:2"

-- a level as it is written
abbrev pub level_text : Level → List ℕ
level_text level = if level.is_1b then codes "1b" else decimal (level.level_idc / 10) ++ (codes "." ++ decimal (level.level_idc % 10))
