-- Sets of marked frames that a filter or a write leaves.
use Rattle.std.proofs.Common.{◌≡◌, ◌≤◌, ◌-◌, ap, refl, rules, ℕ, zero, suc, ◌<◌, length, set, get_or, length-set, ◌∙◌, List, Option, None, Some}
use Rattle.std.proofs.lemmas.List.{get_or_default}
use Rattle.std.specs.List.{refill}
use Rattle.std.specs.Option.{SomeIff}
use Rattle.arrayvec.specs.ArrayVec.{ArrayVec}
use Rattle.arrayvec.proofs.ArrayVecLemmas.{items-with_items}
use Rattle.h264_types.specs.declared.pictures.frames.Frame.{Frame}
use Rattle.h264_types.specs.MarkedFrames.{Marked, as_long_term}
use Rattle.slice_decoding.specs.Operations.{max_idx}

-- sets of equal frames are equal
pub with_frames : {frames left : List Frame} (idx : Option ℕ) → frames ≡ left
    → (let before : Marked = record { frames = frames; max_long_term_frame_idx = idx } in
    let after : Marked = record { frames = left; max_long_term_frame_idx = idx } in before ≡ after)
with_frames idx same =
    let made : List Frame → Marked = λ frames. record { frames = frames; max_long_term_frame_idx = idx } in ap made same

-- what `checked_sub(1)` answers
pub max_idx_is : (plus1 : ℕ) (answer : Option ℕ) → SomeIff answer (1 ≤ plus1) (plus1 - 1) → answer ≡ max_idx plus1
max_idx_is zero None is = refl
max_idx_is zero (Some n) is = search rules
max_idx_is (suc n) None is = search rules
max_idx_is (suc n) (Some m) is = search rules

-- a frame that is written as a long-term frame, and the others as they were
pub written_is : (items now : List Frame) (at : ℕ) (read other : Frame) (idx : ℕ) (greatest : Option ℕ) → now ≡ items → at < length items
    → (let before : Marked = record { frames = refill (length items) items (set now at (as_long_term idx (get_or now at read))); max_long_term_frame_idx = greatest } in
    let after : Marked = record { frames = set items at (as_long_term idx (get_or items at other)); max_long_term_frame_idx = greatest } in before ≡ after)
written_is items now at read other idx greatest is within =
    let vec : ArrayVec Frame = record { items = items } in
    let made : List Frame → Marked = λ frames. record { frames = frames; max_long_term_frame_idx = greatest } in
    let same : get_or items at read ≡ get_or items at other = get_or_default items at read other within in
    ap (λ frames. made (refill (length items) items (set frames at (as_long_term idx (get_or frames at read))))) is
    ∙ (ap made (items-with_items vec (set items at (as_long_term idx (get_or items at read))) (length-set items at _)) ∙ ap (λ frame. made (set items at (as_long_term idx frame))) same)
