-- Reference picture lists of a slice (ITU-T H.264, 8.2.4).
use Rattle.std.specs.Prelude.{◌≡◌, ℕ, ◌+◌, ◌<◌, Bool, true, false, ◌&&◌, ◌||◌, ◌==◌, List, [], ◌∷◌, length, map, filter, Option, IfSome, is_none, Result, Ok, Err, ℤ, if◌then◌else◌}
use Rattle.std.specs.List.{list_any}
use Rattle.std.specs.Ordering.{int_eq}
use Rattle.h264_types.specs.declared.param_sets.sps.Sps.{Sps}
use Rattle.h264_types.specs.declared.slice_headers.slice_headers.SliceHeader.{SliceHeader}
use Rattle.h264_types.specs.declared.slice_headers.slice_types.SliceType.{SliceType}
use Rattle.h264_types.specs.declared.slice_headers.slice_types.SliceType.TheVariants.{B, I, Si}
use Rattle.h264_types.specs.declared.slice_headers.ref_pic_list_modification.RefPicListModification.{RefPicListModification}
use Rattle.h264_types.specs.PicOrderCnt.{pic_order_cnt}
use Rattle.h264_types.specs.declared.pictures.counts.Counts.{Counts}
use Rattle.h264_types.specs.MarkedFrames.{Marked}
use Rattle.h264_types.specs.declared.pictures.frames.Frame.{Frame}
use Rattle.slice_decoding.specs.declared.ref_lists.fault.ListFault.{ListFault}
use Rattle.slice_decoding.specs.declared.ref_lists.fault.ListFault.TheVariants.{OrderTie, NoReference, BadModification}
use Rattle.slice_decoding.specs.declared.ref_lists.initial_lists.ListOrder.{ListOrder}
use Rattle.slice_decoding.specs.declared.ref_lists.initial_lists.ListOrder.TheVariants.{ByPicNum, BelowFirst, AboveFirst}
use Rattle.h264_types.specs.PicNums.{long_term_pic_num}
use Rattle.slice_decoding.specs.InitialLists.{Entries, IsInitialList, initial_list, exchanged, cut}
use Rattle.slice_decoding.specs.Modification.{has_bad_command, modified}

-- slices with a list 0
abbrev pub has_list_0 : SliceType → Bool
has_list_0 I = false
has_list_0 Si = false
has_list_0 type = true

-- slices with a list 1 too
abbrev pub has_list_1 : SliceType → Bool
has_list_1 B = true
has_list_1 type = false

-- how many entries list 0 has
abbrev pub active_l0 : SliceHeader → ℕ
active_l0 header = if has_list_0 header.slice_type then header.num_ref_idx_l0_active_minus1 + 1 else 0

-- how many entries list 1 has
abbrev pub active_l1 : SliceHeader → ℕ
active_l1 header = if has_list_1 header.slice_type then header.num_ref_idx_l1_active_minus1 + 1 else 0

-- one of the numbers stands twice
abbrev pub has_repeat : List ℤ → Bool
has_repeat [] = false
has_repeat (number ∷ numbers) = list_any (int_eq number) numbers || has_repeat numbers

-- PicOrderCnt of each short-term frame
abbrev pub short_term_counts : List Frame → List ℤ
short_term_counts frames = map (λ frame. pic_order_cnt frame.counts) (filter (λ frame. is_none (long_term_pic_num frame)) frames)

-- in a B slice, a short-term frame has the PicOrderCnt of another or of the picture
abbrev pub has_order_tie : Marked → SliceHeader → Counts → Bool
has_order_tie marks header counts =
    has_list_1 header.slice_type && has_repeat (pic_order_cnt counts ∷ short_term_counts marks.frames)

-- a slice with a list, and no frame for it
abbrev pub lacks_reference : Marked → SliceHeader → Bool
lacks_reference marks header = has_list_0 header.slice_type && length marks.frames == 0

-- a command of list 0 or of list 1 names no marked frame
abbrev pub has_bad_modification : Marked → Sps → SliceHeader → Bool
has_bad_modification marks sps header =
    has_bad_command sps header.frame_num marks.frames (active_l0 header) header.ref_pic_list_modification_l0
    || has_bad_command sps header.frame_num marks.frames (active_l1 header) header.ref_pic_list_modification_l1

-- the order of the initial list 0
abbrev pub order_l0 : SliceHeader → Counts → ListOrder
order_l0 header counts = if has_list_1 header.slice_type then BelowFirst (pic_order_cnt counts) else ByPicNum

-- the order of the initial list 1
abbrev pub order_l1 : Counts → ListOrder
order_l1 counts = AboveFirst (pic_order_cnt counts)

-- a list by its initial list: cut to the active entries, and modified
abbrev pub list_by : Marked → Sps → SliceHeader → (active : ℕ) → List RefPicListModification → List ℕ → Entries
list_by marks sps header active commands initial =
    modified sps header.frame_num marks.frames commands (cut active initial)

-- list 0 and list 1, or why there are none
abbrev pub Answer : Type 0
Answer = Result (Entries × Entries) ListFault

-- What the slice has, where these are the frames in the orders of list 0 and list 1: the first fault that it shows,
-- or its lists.
abbrev pub lists_from :
    Marked → Sps → SliceHeader → Counts → (initial_0 initial_1 : List ℕ) → Answer
lists_from marks sps header counts initial_0 initial_1 =
    if has_order_tie marks header counts then Err OrderTie
    else if lacks_reference marks header then Err NoReference
    else if has_bad_modification marks sps header then Err BadModification
    else Ok (
      list_by marks sps header (active_l0 header) header.ref_pic_list_modification_l0 initial_0,
      list_by marks sps header (active_l1 header) header.ref_pic_list_modification_l1 (exchanged initial_0 initial_1),
    )

-- the construction of the lists of a slice gives this answer
pub record Constructs (marks : Marked) (sps : Sps) (header : SliceHeader) (counts : Counts) (answer : Answer) : Type 0 where
  pub initial_0 : List ℕ
  pub initial_1 : List ℕ
  pub in_order_0 : IsInitialList sps header.frame_num (order_l0 header counts) marks.frames initial_0
  pub in_order_1 : IsInitialList sps header.frame_num (order_l1 counts) marks.frames initial_1
  pub answer_is : answer ≡ lists_from marks sps header counts initial_0 initial_1

-- a missing entry, or the place of a marked frame
abbrev pub IsMarked : Marked → Option ℕ → Type 0
IsMarked marks entry = IfSome entry (λ place. place < length marks.frames)

-- the same as a function
unfoldable pub lists_of : Marked → Sps → SliceHeader → Counts → Answer
lists_of marks sps header counts =
    lists_from marks sps header counts
    (initial_list sps header.frame_num (order_l0 header counts) marks.frames) (initial_list sps header.frame_num (order_l1 counts) marks.frames)
