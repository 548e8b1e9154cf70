-- The size of a frame after cropping (ITU-T H.264, 7.4.2.1.1).
use Rattle.std.specs.Prelude.{ℕ, ◌+◌, ◌-◌, ◌*◌, List}
use Rattle.h264_types.specs.declared.param_sets.sps.Sps.{Sps}
use Rattle.h264_types.specs.declared.param_sets.sps.ChromaFormat.{ChromaFormat}
use Rattle.h264_types.specs.declared.param_sets.sps.ChromaFormat.TheVariants.{Monochrome, Yuv420, Yuv422}
use Rattle.param_sets.specs.Cropping.{cropping_in}
use Rattle.param_sets.specs.declared.cropping.cropping.Cropping.{Cropping}
use Rattle.param_sets.specs.declared.cropping.size.Size.{Size}

-- CropUnitX (7-19, 7-21)
abbrev pub crop_unit_x : ChromaFormat → ℕ
crop_unit_x Monochrome = 1
crop_unit_x Yuv420 = 2
crop_unit_x Yuv422 = 2

-- CropUnitY, where frame_mbs_only_flag is 1 (7-20, 7-22)
abbrev pub crop_unit_y : ChromaFormat → ℕ
crop_unit_y Monochrome = 1
crop_unit_y Yuv420 = 2
crop_unit_y Yuv422 = 1

-- the size of a frame with this cropping rectangle
abbrev pub size_with : Sps → Cropping → Size
size_with sps cropping = record {
  width = (sps.pic_width_in_mbs_minus1 + 1) * 16 - crop_unit_x sps.chroma_format_idc * (cropping.left + cropping.right);
  height = (sps.pic_height_in_map_units_minus1 + 1) * 16 - crop_unit_y sps.chroma_format_idc * (cropping.top + cropping.bottom);
}

-- by the payload from which the set was read
abbrev pub cropped_size : List ℕ → Sps → Size
cropped_size payload sps = size_with sps (cropping_in payload sps)
