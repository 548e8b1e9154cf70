-- Type 0: the counts are sent, without their high bits (ITU-T H.264, 8.2.1.1).
use Rattle.std.specs.Prelude.{ℕ, ◌+◌, ◌/◌, ◌^◌, ◌&&◌, ℤ, pos, ◌+ℤ◌, ◌-ℤ◌, int_lt, int_le, if◌then◌else◌}
use Rattle.h264_types.specs.declared.param_sets.sps.Sps.{Sps}
use Rattle.h264_types.specs.declared.slice_headers.slice_headers.SliceHeader.{SliceHeader}
use Rattle.slice_decoding.specs.declared.order_count.anchors.Anchor.{Anchor}
use Rattle.h264_types.specs.declared.pictures.counts.Counts.{Counts}
use Rattle.h264_types.specs.Pictures.{is_idr}

-- MaxPicOrderCntLsb (7-11)
abbrev pub max_pic_order_cnt_lsb : Sps → ℕ
max_pic_order_cnt_lsb sps = 2 ^ (sps.log2_max_pic_order_cnt_lsb_minus4 + 4)

-- PicOrderCntMsb (8-3): one round further where pic_order_cnt_lsb fell by half a round or more, one round back where it
-- rose by more than half
abbrev pub msb_near : (prev_msb prev_lsb lsb : ℤ) (max : ℕ) → ℤ
msb_near prev_msb prev_lsb lsb max =
    if int_lt lsb prev_lsb && int_le (pos (max / 2)) (prev_lsb -ℤ lsb) then prev_msb +ℤ pos max
    else if int_lt prev_lsb lsb && int_lt (pos (max / 2)) (lsb -ℤ prev_lsb) then prev_msb -ℤ pos max
    else prev_msb

-- prevPicOrderCntMsb of a picture
abbrev pub prev_msb : Anchor → SliceHeader → ℤ
prev_msb anchor header = if is_idr header then pos 0 else anchor.prev_pic_order_cnt_msb

-- prevPicOrderCntLsb of a picture
abbrev pub prev_lsb : Anchor → SliceHeader → ℤ
prev_lsb anchor header = if is_idr header then pos 0 else anchor.prev_pic_order_cnt_lsb

-- PicOrderCntMsb of a picture
abbrev pub pic_order_cnt_msb : Anchor → Sps → SliceHeader → ℤ
pic_order_cnt_msb anchor sps header =
    msb_near (prev_msb anchor header) (prev_lsb anchor header) (pos header.pic_order_cnt_lsb) (max_pic_order_cnt_lsb sps)

-- the counts of a frame (8-4, 8-5)
abbrev pub counts_from : ℤ → SliceHeader → Counts
counts_from msb header = record {
  top = msb +ℤ pos header.pic_order_cnt_lsb;
  bottom = msb +ℤ pos header.pic_order_cnt_lsb +ℤ header.delta_pic_order_cnt_bottom;
}

-- the counts of a picture of type 0
unfoldable pub type_zero : Anchor → Sps → SliceHeader → Counts
type_zero anchor sps header = counts_from (pic_order_cnt_msb anchor sps header) header
