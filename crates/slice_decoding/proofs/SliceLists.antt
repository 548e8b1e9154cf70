-- What the lists of a slice are, by its type.
use Rattle.std.proofs.Common.{◌≡◌, ℕ, ◌+◌, ◌<◌, ◌∷◌, Bool, true, false, ◌==◌, ◌||◌, List, [], length, drop, get_or, if◌then◌else◌, Result, Ok, Err, ℤ, pos, refl, ap, ◌∙◌}
use Rattle.std.specs.List.{list_any}
use Rattle.std.specs.Ordering.{int_eq}
use Rattle.std.proofs.lemmas.List.{drop_more}
use Rattle.h264_types.specs.declared.param_sets.sps.Sps.{Sps}
use Rattle.h264_types.specs.declared.slice_headers.slice_headers.SliceHeader.{SliceHeader}
use Rattle.h264_types.specs.declared.slice_headers.slice_types.SliceType.{SliceType}
use Rattle.h264_types.specs.declared.slice_headers.slice_types.SliceType.TheVariants.{P, B, I, Sp, Si}
use Rattle.h264_types.specs.declared.slice_headers.ref_pic_list_modification.RefPicListModification.{RefPicListModification}
use Rattle.h264_types.specs.PicOrderCnt.{pic_order_cnt}
use Rattle.h264_types.specs.declared.pictures.counts.Counts.{Counts}
use Rattle.h264_types.specs.MarkedFrames.{Marked}
use Rattle.slice_decoding.specs.declared.ref_lists.fault.ListFault.{ListFault}
use Rattle.slice_decoding.specs.declared.ref_lists.fault.ListFault.TheVariants.{OrderTie, NoReference, BadModification}
use Rattle.slice_decoding.specs.declared.ref_lists.initial_lists.ListOrder.{ListOrder}
use Rattle.slice_decoding.specs.declared.ref_lists.initial_lists.ListOrder.TheVariants.{ByPicNum, BelowFirst, AboveFirst}
use Rattle.slice_decoding.specs.InitialLists.{Entries, exchanged, initial_list}
use Rattle.slice_decoding.specs.Modification.{has_bad_command}
use Rattle.slice_decoding.specs.ReferenceLists.{has_list_0, has_list_1, has_repeat, short_term_counts, list_by, lists_of}

has_list_0-from_1 : (type : SliceType) → has_list_1 type ≡ true → has_list_0 type ≡ true
has_list_0-from_1 P has = refl
has_list_0-from_1 B has = refl
has_list_0-from_1 Sp has = refl
has_list_0-from_1 I has = cc
has_list_0-from_1 Si has = cc

-- one number in turn: whether it stands again decides, or the numbers after it do
module _ (numbers : List ℤ) (index : ℕ) (below : index < length numbers) where
  pub has_repeat-found : list_any (int_eq (get_or numbers index (pos 0))) (drop (index + 1) numbers) ≡ true → has_repeat (drop index numbers) ≡ true
  has_repeat-found again = ap has_repeat (drop_more numbers index (pos 0) below) ∙ ap (λ b. b || has_repeat (drop (index + 1) numbers)) again

  pub has_repeat_more : list_any (int_eq (get_or numbers index (pos 0))) (drop (index + 1) numbers) ≡ false → has_repeat (drop index numbers) ≡ has_repeat (drop (index + 1) numbers)
  has_repeat_more none = ap has_repeat (drop_more numbers index (pos 0) below) ∙ ap (λ b. b || has_repeat (drop (index + 1) numbers)) none

-- what a list is, or the fault of its commands
abbrev pub outcome : {A : Type 0} → Bool → A → Result A ListFault
outcome bad list = if bad then Err BadModification else Ok list

-- how the answers for both lists make one
module _ {A : Type 0} (list_0 list_1 : A) where
  pub both-Err : (bad_0 bad_1 : Bool) (fault : ListFault) → outcome bad_0 list_0 ≡ Err fault → outcome {A = A × A} (bad_0 || bad_1) (list_0, list_1) ≡ Err fault
  both-Err true bad_1 fault is = cc
  both-Err false bad_1 fault is = cc

  pub both-Ok-Err : (bad_0 bad_1 : Bool) (entries : A) (fault : ListFault) → outcome bad_0 list_0 ≡ Ok entries → outcome bad_1 list_1 ≡ Err fault
      → outcome {A = A × A} (bad_0 || bad_1) (list_0, list_1) ≡ Err fault
  both-Ok-Err true bad_1 entries fault is is' = cc
  both-Ok-Err false true entries fault is is' = cc
  both-Ok-Err false false entries fault is is' = cc

  pub both-Ok : (bad_0 bad_1 : Bool) (entries others : A) → outcome bad_0 list_0 ≡ Ok entries → outcome bad_1 list_1 ≡ Ok others
      → outcome {A = A × A} (bad_0 || bad_1) (list_0, list_1) ≡ Ok (entries, others)
  both-Ok true bad_1 entries others is is' = cc
  both-Ok false true entries others is is' = cc
  both-Ok false false entries others is is' = cc

module _ (marks : Marked) (sps : Sps) (header : SliceHeader) where
  abbrev pub initial : ListOrder → List ℕ
  initial order = initial_list sps header.frame_num order marks.frames

  -- a list with so many active entries by its initial list, and whether a command of it is bad
  abbrev pub bad : ℕ → List RefPicListModification → Bool
  bad active commands = has_bad_command sps header.frame_num marks.frames active commands

  abbrev pub bad_0 : Bool
  bad_0 = bad (header.num_ref_idx_l0_active_minus1 + 1) header.ref_pic_list_modification_l0

  abbrev pub bad_1 : Bool
  bad_1 = bad (header.num_ref_idx_l1_active_minus1 + 1) header.ref_pic_list_modification_l1

  abbrev pub final_0 : ListOrder → Entries
  final_0 order = list_by marks sps header (header.num_ref_idx_l0_active_minus1 + 1) header.ref_pic_list_modification_l0 (initial order)

  pub lists_of-none : has_list_0 header.slice_type ≡ false → has_list_1 header.slice_type ≡ false → (counts : Counts) → lists_of marks sps header counts ≡ Ok ([], [])
  unfolding lists_of
  lists_of-none no_list_0 no_list_1 counts = rw (no_list_1, no_list_0) refl

  module _ (counts : Counts) where
    abbrev pub ties : Bool
    ties = has_repeat (pic_order_cnt counts ∷ short_term_counts marks.frames)

    abbrev pub final_1 : Entries
    final_1 = list_by marks sps header (header.num_ref_idx_l1_active_minus1 + 1) header.ref_pic_list_modification_l1
        (exchanged (initial (BelowFirst (pic_order_cnt counts))) (initial (AboveFirst (pic_order_cnt counts))))

    pub lists_of-p : has_list_0 header.slice_type ≡ true → has_list_1 header.slice_type ≡ false → (length marks.frames == 0) ≡ false
        → lists_of marks sps header counts ≡ outcome {A = Entries × Entries} (bad_0 || false) (final_0 ByPicNum, [])
    unfolding lists_of
    lists_of-p has_0 no_list_1 some = rw (no_list_1, has_0, some) refl

    pub lists_of-p_none : has_list_0 header.slice_type ≡ true → has_list_1 header.slice_type ≡ false → (length marks.frames == 0) ≡ true
        → lists_of marks sps header counts ≡ Err NoReference
    unfolding lists_of
    lists_of-p_none has_0 no_list_1 none = rw (no_list_1, has_0, none) refl

    pub lists_of-tie : has_list_1 header.slice_type ≡ true → ties ≡ true → lists_of marks sps header counts ≡ Err OrderTie
    unfolding lists_of
    lists_of-tie has_1 tie = rw (has_1, tie) refl

    pub lists_of-b_none : has_list_1 header.slice_type ≡ true → ties ≡ false → (length marks.frames == 0) ≡ true → lists_of marks sps header counts ≡ Err NoReference
    unfolding lists_of
    lists_of-b_none has_1 apart none = rw (has_1, apart, has_list_0-from_1 header.slice_type has_1, none) refl

    pub lists_of-b : has_list_1 header.slice_type ≡ true → ties ≡ false → (length marks.frames == 0) ≡ false
        → lists_of marks sps header counts ≡ outcome {A = Entries × Entries} (bad_0 || bad_1) (final_0 (BelowFirst (pic_order_cnt counts)), final_1)
    unfolding lists_of
    lists_of-b has_1 apart some = rw (has_1, apart, has_list_0-from_1 header.slice_type has_1, some) refl
