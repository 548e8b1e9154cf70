-- What the definition's answer says.
use Rattle.std.proofs.Common.{◌≡◌, ◌^◌, ◌<◌, Bool, true, false, ◌&&◌, if◌then◌else◌, ◌≤◌, ℤ, pos, negsuc, ◌+ℤ◌, unsigned_abs, Result, Ok, Err, ◌⊎◌, inl, inr, refl, subst, ap, sym, arith}
use Rattle.std.proofs.lemmas.Int.{ints}
use Rattle.h264_types.specs.declared.param_sets.sps.Sps.{Sps}
use Rattle.h264_types.specs.declared.param_sets.sps.PicOrderCntType.{PicOrderCntType}
use Rattle.h264_types.specs.declared.param_sets.sps.PicOrderCntType.TheVariants.{Zero, One, Two}
use Rattle.h264_types.specs.declared.slice_headers.slice_headers.SliceHeader.{SliceHeader}
use Rattle.slice_decoding.specs.declared.order_count.anchors.Anchor.{Anchor}
use Rattle.h264_types.specs.declared.pictures.counts.Counts.{Counts}
use Rattle.slice_decoding.specs.declared.order_count.counting.OrderRange.{OrderRange}
use Rattle.h264_types.specs.PicOrderCnt.{is_in_range, are_in_range}
use Rattle.slice_decoding.specs.FrameNumbers.{frame_num_offset}
use Rattle.slice_decoding.specs.TypeZero.{type_zero, pic_order_cnt_msb}
use Rattle.h264_types.specs.Resetting.{counts_after_reset}
use Rattle.slice_decoding.specs.Counting.{counts_of, by_type, has_small_offset}

-- what is true of counts that are answered
pub record IsAnswered (anchor : Anchor) (sps : Sps) (header : SliceHeader) (counts : Counts) : Type 0 where
  pub small : has_small_offset sps.pic_order_cnt_type anchor sps header ≡ true
  pub now : are_in_range counts ≡ true
  pub kept : are_in_range (counts_after_reset header counts) ≡ true
  pub same : by_type sps.pic_order_cnt_type anchor sps header ≡ counts

-- the same of the tests alone
tested : (small now kept : Bool) (counts others : Counts) → ◌≡◌ {A = Result Counts OrderRange} (if small && now && kept then Ok counts else Err (record {})) (Ok others) → (small ≡ true) × (now ≡ true) × (kept ≡ true) × (counts ≡ others)
tested true true true counts others is = (refl, refl, refl, cc)
tested true true false counts others is = cc
tested true false kept counts others is = cc
tested false now kept counts others is = cc

pub answered : (anchor : Anchor) (sps : Sps) (header : SliceHeader) (counts : Counts) → counts_of anchor sps header ≡ Ok counts → IsAnswered anchor sps header counts
unfolding counts_of
answered anchor sps header counts is =
    let t = tested _ _ _ _ counts is in
    record { small = t.0; now = subst (λ c. are_in_range c ≡ true) t.3 t.1; kept = subst (λ c. are_in_range (counts_after_reset header c) ≡ true) t.3 t.2; same = t.3 }

-- FrameNumOffset of types 1 and 2
pub small-offset : (type : PicOrderCntType) (anchor : Anchor) (sps : Sps) (header : SliceHeader) → (type ≡ One) ⊎ (type ≡ Two) → has_small_offset type anchor sps header ≡ true → frame_num_offset anchor sps header < 2 ^ 32
small-offset Zero anchor sps header (inl is) small = cc
small-offset Zero anchor sps header (inr is) small = cc
small-offset One anchor sps header is small = grind arith
small-offset Two anchor sps header is small = grind arith

-- a number in range
in_range-small : (number : ℤ) (other : Bool) → (is_in_range number && other) ≡ true → unsigned_abs number ≤ 2 ^ 31
in_range-small (pos n) other is = grind arith
in_range-small (negsuc n) other is = grind arith

-- PicOrderCntMsb of type 0, by the top count
pub msb-small : (type : PicOrderCntType) (anchor : Anchor) (sps : Sps) (header : SliceHeader) (counts : Counts) → type ≡ Zero → by_type type anchor sps header ≡ counts → are_in_range counts ≡ true → header.pic_order_cnt_lsb < 2 ^ 16 → unsigned_abs (pic_order_cnt_msb anchor sps header) < 2 ^ 63
unfolding type_zero
msb-small Zero anchor sps header counts zero same now small =
    let sum : counts.top ≡ pic_order_cnt_msb anchor sps header +ℤ pos header.pic_order_cnt_lsb = ap (λ (c : Counts). c.top) (sym same) in
    let fits : unsigned_abs counts.top ≤ 2 ^ 31 = in_range-small counts.top _ now in
    omega (arith, ints)
msb-small One anchor sps header counts zero same now small = cc
msb-small Two anchor sps header counts zero same now small = cc
