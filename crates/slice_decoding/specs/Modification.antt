-- Modification of reference picture lists (ITU-T H.264, 8.2.4.3).
use Rattle.std.specs.Prelude.{ℕ, suc, ◌+◌, Bool, not, nat_eq, List, [], ◌∷◌, ◌++◌, length, take, drop, filter, position, ◌||◌, false, Option, Some, None, is_none, ℤ, pos, ◌+ℤ◌, ◌-ℤ◌, int_lt, if◌then◌else◌}
use Rattle.std.specs.Option.{option_eq}
use Rattle.std.specs.Ordering.{int_eq}
use Rattle.h264_types.specs.declared.param_sets.sps.Sps.{Sps}
use Rattle.h264_types.specs.declared.slice_headers.ref_pic_list_modification.RefPicListModification.{RefPicListModification}
use Rattle.h264_types.specs.declared.slice_headers.ref_pic_list_modification.RefPicListModification.TheVariants.{Subtract, Add, LongTerm}
use Rattle.h264_types.specs.FrameNumbers.{max_frame_num}
use Rattle.h264_types.specs.declared.pictures.frames.Frame.{Frame}
use Rattle.h264_types.specs.PicNums.{pic_num, long_term_pic_num, curr_pic_num}
use Rattle.slice_decoding.specs.InitialLists.{Entries}
use Rattle.slice_decoding.specs.declared.ref_lists.modification.PictureNumber.{PictureNumber}
use Rattle.slice_decoding.specs.declared.ref_lists.modification.PictureNumber.TheVariants.{PicNum, LongTermPicNum}

-- picNumLXNoWrap (8-34, 8-35): less or more than the last by the difference, once around MaxFrameNum
abbrev pub no_wrap : Sps → ℤ → RefPicListModification → ℤ
no_wrap sps last (Subtract abs_diff_pic_num_minus1) =
    let lower = last -ℤ pos (abs_diff_pic_num_minus1 + 1) in
    if int_lt lower (pos 0) then lower +ℤ pos (max_frame_num sps) else lower
no_wrap sps last (Add abs_diff_pic_num_minus1) =
    let higher = last +ℤ pos (abs_diff_pic_num_minus1 + 1) in
    if int_lt higher (pos (max_frame_num sps)) then higher else higher -ℤ pos (max_frame_num sps)
no_wrap sps last (LongTerm long_term_pic_num) = last

-- the number that a command names: picNumLX (8-36), or its LongTermPicNum
abbrev pub named : Sps → (frame_num : ℕ) → ℤ → RefPicListModification → PictureNumber
named sps frame_num number (LongTerm long_term_pic_num) = LongTermPicNum long_term_pic_num
named sps frame_num number command =
    PicNum (if int_lt (pos frame_num) number then number -ℤ pos (max_frame_num sps) else number)

-- the frame has the number
abbrev pub has_number : Sps → (frame_num : ℕ) → PictureNumber → Frame → Bool
has_number sps frame_num (PicNum number) frame = option_eq int_eq (pic_num sps frame_num frame) (Some number)
has_number sps frame_num (LongTermPicNum number) frame = option_eq nat_eq (long_term_pic_num frame) (Some number)

-- the entry is the frame at the place
abbrev pub is_entry_of : ℕ → Option ℕ → Bool
is_entry_of place entry = option_eq nat_eq entry (Some place)

-- the frame at a place in the marks goes to an index of the list, and out after it; the list keeps its length (8-37)
abbrev pub put : (index place : ℕ) → Entries → Entries
put index place entries =
    take (length entries) (take index entries ++ Some place ∷ filter (λ entry. not (is_entry_of place entry)) (drop index entries))

-- the same, where a frame is named
abbrev pub put_named : ℕ → Option ℕ → Entries → Entries
put_named index None entries = entries
put_named index (Some place) entries = put index place entries

module _ (sps : Sps) (frame_num : ℕ) (frames : List Frame) where
  -- the place in the marks of the first frame that a command names, by its picNumLXNoWrap
  abbrev pub place_named : ℤ → RefPicListModification → Option ℕ
  place_named number command = position (has_number sps frame_num (named sps frame_num number command)) frames

  -- a command names no marked frame, where the first counts from the last number
  abbrev pub names_no_frame : ℤ → List RefPicListModification → Bool
  names_no_frame last [] = false
  names_no_frame last (command ∷ commands) =
      let number = no_wrap sps last command in
      is_none (place_named number command) || names_no_frame number commands

  -- the list after commands, the first of which is for an index and counts from the last number
  abbrev pub modified_from : (index : ℕ) → ℤ → Entries → List RefPicListModification → Entries
  modified_from index last entries [] = entries
  modified_from index last entries (command ∷ commands) =
      let number = no_wrap sps last command in
      modified_from (suc index) number (put_named index (place_named number command) entries) commands

  -- A command of a list with so many active entries names no marked frame: the first counts from CurrPicNum, and no more
  -- of them count than there are entries.
  abbrev pub has_bad_command : (active : ℕ) → List RefPicListModification → Bool
  has_bad_command active commands = names_no_frame (curr_pic_num frame_num) (take active commands)

  -- the list after its commands, of which no more count than it has entries
  abbrev pub modified : List RefPicListModification → Entries → Entries
  modified commands entries = modified_from 0 (curr_pic_num frame_num) entries (take (length entries) commands)
