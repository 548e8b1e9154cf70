-- The types of picture order counts (ITU-T H.264, 7.4.2.1.1).
use Rattle.std.specs.Prelude.{Bool, true, false}
use Rattle.h264_types.specs.declared.param_sets.sps.Sps.{Sps}
use Rattle.h264_types.specs.declared.param_sets.sps.PicOrderCntType.{PicOrderCntType}
use Rattle.h264_types.specs.declared.param_sets.sps.PicOrderCntType.TheVariants.{Zero, One, Two}

abbrev pub is_type_zero : Sps → Bool
is_type_zero s = is_zero s.pic_order_cnt_type
  where
    is_zero : PicOrderCntType → Bool
    is_zero Zero = true
    is_zero t = false

abbrev pub is_type_one : Sps → Bool
is_type_one s = is_one s.pic_order_cnt_type
  where
    is_one : PicOrderCntType → Bool
    is_one One = true
    is_one t = false
