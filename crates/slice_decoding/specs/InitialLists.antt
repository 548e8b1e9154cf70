-- Initial reference picture lists of frames (ITU-T H.264, 8.2.4.2).
use Rattle.std.specs.Prelude.{◌≡◌, ◌≢◌, ℕ, zero, suc, ◌+◌, ◌<◌, Bool, nat_eq, List, [], ◌∷◌, length, slice_get, slice_index, AllPairs, Contains, ◌↔◌, Option, Some, None, ℤ, pos, neg_ℤ, int_lt, if◌then◌else◌}
use Rattle.std.specs.declared.cmp.Ordering.{Ordering}
use Rattle.std.specs.declared.cmp.Ordering.TheVariants.{Less}
use Rattle.std.specs.Ordering.{is_lt, nat_cmp, int_cmp, on, then_cmp}
use lib.Pointwise.{pointwise}
use Rattle.h264_types.specs.declared.param_sets.sps.Sps.{Sps}
use Rattle.h264_types.specs.PicOrderCnt.{pic_order_cnt}
use Rattle.h264_types.specs.declared.pictures.frames.Frame.{Frame}
use Rattle.h264_types.specs.PicNums.{frame_num_wrap, long_term_pic_num}
use Rattle.slice_decoding.specs.declared.ref_lists.initial_lists.ListOrder.{ListOrder}
use Rattle.slice_decoding.specs.declared.ref_lists.initial_lists.ListOrder.TheVariants.{ByPicNum, BelowFirst, AboveFirst}
use Rattle.slice_decoding.specs.declared.ref_lists.initial_lists.Group.{Group}
use Rattle.slice_decoding.specs.declared.ref_lists.initial_lists.Group.TheVariants.{First, Second, LongTerm}
use Rattle.slice_decoding.specs.declared.ref_lists.initial_lists.Standing.{Standing}

-- in a group, by a number that rises
abbrev pub rising : Group → ℤ → ℕ → Standing
rising group number place = record { group = group; number = number; place = place }

-- in a group, by a number that falls
abbrev pub falling : Group → ℤ → ℕ → Standing
falling group number place = rising group (neg_ℤ number) place

-- Short-term frames for a picture with this frame_num: for P slices by falling PicNum, which is FrameNumWrap (8.2.4.2.1);
-- for B slices by PicOrderCnt, those below the picture falling and the others rising, in list 0 those below first, in
-- list 1 the others (8.2.4.2.3).
abbrev pub short_term_standing : Sps → (frame_num : ℕ) → ListOrder → Frame → ℕ → Standing
short_term_standing sps frame_num ByPicNum frame place = falling First (frame_num_wrap sps frame_num frame.frame_num) place
short_term_standing sps frame_num (BelowFirst picture) frame place =
    let count = pic_order_cnt frame.counts in
    if int_lt count picture then falling First count place else rising Second count place
short_term_standing sps frame_num (AboveFirst picture) frame place =
    let count = pic_order_cnt frame.counts in
    if int_lt count picture then falling Second count place else rising First count place

-- long-term frames come after them, by rising LongTermPicNum
abbrev pub standing_by : Option ℕ → Standing → ℕ → Standing
standing_by None short_term place = short_term
standing_by (Some number) short_term place = rising LongTerm (pos number) place

-- where the frame at a place in the marks stands in a list
abbrev pub standing : Sps → (frame_num : ℕ) → ListOrder → Frame → ℕ → Standing
standing sps frame_num order frame place =
    standing_by (long_term_pic_num frame) (short_term_standing sps frame_num order frame place) place

-- the groups in their order
abbrev pub group_index : Group → ℕ
group_index First = 0
group_index Second = 1
group_index LongTerm = 2

-- by group, in a group by number, and where both are the same by place
abbrev pub compare : Standing → Standing → Ordering
compare = then_cmp (on (λ s. group_index s.group) nat_cmp) (then_cmp (on (λ s. s.number) int_cmp) (on (λ s. s.place) nat_cmp))

-- a place with no frame is after all others
abbrev pub standing_of : Sps → (frame_num : ℕ) → ListOrder → Option Frame → ℕ → Standing
standing_of sps frame_num order None place = rising LongTerm (pos 0) place
standing_of sps frame_num order (Some frame) place = standing sps frame_num order frame place

module _ (sps : Sps) (frame_num : ℕ) (order : ListOrder) (frames : List Frame) where
  -- where the frame at this place stands
  abbrev pub standing_at : ℕ → Standing
  standing_at place = standing_of sps frame_num order (slice_get frames place) place

  -- which of the frames at two places stands before the other
  abbrev pub place_cmp : ℕ → ℕ → Ordering
  place_cmp = on standing_at compare

  -- the places of the frames, each once, and of two neighbours the first stands before the second
  pub record IsInitialList (places : List ℕ) : Type 0 where
    pub members : (place : ℕ) → Contains places place ↔ (place < length frames)
    pub once : AllPairs ◌≢◌ places
    pub in_order : (k : ℕ) → k + 1 < length places → place_cmp (slice_index places k) (slice_index places (k + 1)) ≡ Less

-- list 1, whose first two entries change places where it is list 0 (8.2.4.2.3)
abbrev pub exchanged : List ℕ → List ℕ → List ℕ
exchanged list_0 (first ∷ second ∷ places) =
    if pointwise nat_eq (first ∷ second ∷ places) list_0 then second ∷ first ∷ places else first ∷ second ∷ places
exchanged list_0 places = places

-- the entries of a list: at each the place of a frame in the marks, or nothing where it is missing
abbrev pub Entries : Type 0
Entries = List (Option ℕ)

-- the first entries of a list, as many as are active; where there are no more frames, the rest are missing (8.2.4.2)
abbrev pub cut : (active : ℕ) → List ℕ → Entries
cut zero places = []
cut (suc active) [] = None ∷ cut active []
cut (suc active) (place ∷ places) = Some place ∷ cut active places

-- a place goes before the first that it precedes
abbrev pub inserted : (ℕ → ℕ → Bool) → ℕ → List ℕ → List ℕ
inserted precedes place [] = place ∷ []
inserted precedes place (other ∷ places) =
    if precedes place other then place ∷ other ∷ places else other ∷ inserted precedes place places

-- the places below a number, each in turn put before the first that it precedes
abbrev pub sorted_below : (ℕ → ℕ → Bool) → ℕ → List ℕ
sorted_below precedes zero = []
sorted_below precedes (suc place) = inserted precedes place (sorted_below precedes place)

-- the initial list as a function
unfoldable pub initial_list : Sps → (frame_num : ℕ) → ListOrder → List Frame → List ℕ
initial_list sps frame_num order frames =
    sorted_below (λ place other. is_lt (place_cmp sps frame_num order frames place other)) (length frames)
