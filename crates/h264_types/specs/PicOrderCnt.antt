-- The counts of a frame (ITU-T H.264, 8.2.1), each a number without bounds.
use Rattle.std.specs.Prelude.{◌^◌, Bool, ℤ, pos, negsuc, nat_lt, ◌&&◌}
use Rattle.std.specs.Int.{int_min}
use Rattle.h264_types.specs.declared.pictures.counts.Counts.{Counts}

-- PicOrderCnt of a frame: the smaller of its counts (8-1)
abbrev pub pic_order_cnt : Counts → ℤ
pic_order_cnt counts = int_min counts.top counts.bottom

-- from -2^31 to 2^31 - 1
abbrev pub is_in_range : ℤ → Bool
is_in_range (pos n) = nat_lt n (2 ^ 31)
is_in_range (negsuc n) = nat_lt n (2 ^ 31)

-- both counts are
abbrev pub are_in_range : Counts → Bool
are_in_range counts = is_in_range counts.top && is_in_range counts.bottom
