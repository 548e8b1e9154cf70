-- What holds of the lists of every slice.
use Rattle.std.proofs.Common.{◌≡◌, ℕ, zero, suc, ◌+◌, ◌<◌, ◌≤◌, ◌∷◌, ◌↔◌, Bool, true, false, nat_eq, if◌then◌else◌, IsTrue, IsFalse, not, ◌++◌, List, [], length, take, drop, get_or, count_by, filter, position, All, Contains, Option, Some, None, IfOk, Result, Ok, Err, ℤ, refl, ap, ◌∙◌, arith, add-one, ⊎_elim}
use lib.Pointwise.{pointwise}
use Rattle.std.proofs.lemmas.Bool.{cases_Bool}
use Rattle.std.proofs.lemmas.List.{drop_more, length-take}
use Rattle.std.proofs.lemmas.List.Elements.{All-nil, All-cons, All-head, All-tail, All-append, All-take, All-drop, All-filter, All-weaker, All-contains_itself}
use Rattle.std.proofs.lemmas.List.Sums.{sum_by-cons}
use Rattle.h264_types.specs.declared.param_sets.sps.Sps.{Sps}
use Rattle.h264_types.specs.declared.slice_headers.slice_headers.SliceHeader.{SliceHeader}
use Rattle.h264_types.specs.declared.slice_headers.ref_pic_list_modification.RefPicListModification.{RefPicListModification}
use Rattle.h264_types.specs.declared.pictures.counts.Counts.{Counts}
use Rattle.h264_types.specs.MarkedFrames.{Marked}
use Rattle.h264_types.specs.declared.pictures.frames.Frame.{Frame}
use Rattle.h264_types.specs.PicNums.{curr_pic_num}
use Rattle.slice_decoding.specs.declared.ref_lists.fault.ListFault.{ListFault}
use Rattle.slice_decoding.specs.declared.ref_lists.fault.ListFault.TheVariants.{OrderTie, NoReference, BadModification}
use Rattle.slice_decoding.specs.declared.ref_lists.initial_lists.ListOrder.{ListOrder}
use Rattle.slice_decoding.specs.InitialLists.{Entries, exchanged, cut, initial_list}
use Rattle.slice_decoding.specs.Modification.{no_wrap, is_entry_of, put_named, place_named, has_number, named, modified_from, modified}
use Rattle.slice_decoding.specs.ReferenceLists.{has_order_tie, lacks_reference, has_bad_modification, active_l0, active_l1, order_l0, order_l1, list_by, Answer, lists_from, Constructs, IsMarked, lists_of}
use Rattle.slice_decoding.proofs.RefListsPlaces.{IsInitialList-initial_list, initial_list-only, IsDistinct-initial_list, IsDistinct-exchanged}
use Rattle.slice_decoding.proofs.Entries.{length-cut, count_by-cut}
use Rattle.slice_decoding.proofs.Puts.{length-put, count_by-put, position-Some}
use Rattle.std.specs.List.{IsDistinct}

-- the lists of a slice are those of its function, and no others
module _ (marks : Marked) (sps : Sps) (header : SliceHeader) (counts : Counts) where
  pub Constructs-lists_of : Constructs marks sps header counts (lists_of marks sps header counts)
  unfolding lists_of
  Constructs-lists_of = record {
    initial_0 = initial_list sps header.frame_num (order_l0 header counts) marks.frames;
    initial_1 = initial_list sps header.frame_num (order_l1 counts) marks.frames;
    in_order_0 = IsInitialList-initial_list sps header.frame_num (order_l0 header counts) marks.frames;
    in_order_1 = IsInitialList-initial_list sps header.frame_num (order_l1 counts) marks.frames;
    answer_is = refl;
  }

  pub lists_of-only : (other : Answer) → Constructs marks sps header counts other → other ≡ lists_of marks sps header counts
  unfolding lists_of
  lists_of-only other constructs =
      let same_0 = initial_list-only sps header.frame_num (order_l0 header counts) marks.frames constructs.initial_0 constructs.in_order_0 in
      let same_1 = initial_list-only sps header.frame_num (order_l1 counts) marks.frames constructs.initial_1 constructs.in_order_1 in
      constructs.answer_is ∙ ap (λ initial. lists_from marks sps header counts initial constructs.initial_1) same_0
      ∙ ap (lists_from marks sps header counts (initial_list sps header.frame_num (order_l0 header counts) marks.frames)) same_1

-- the first fault that is shown, or the lists
abbrev chosen : {A : Type 0} → (tie lacks bad : Bool) → A → Result A ListFault
chosen tie lacks bad lists = if tie then Err OrderTie else if lacks then Err NoReference else if bad then Err BadModification else Ok lists

module _ {A : Type 0} (lists : A) where
  chosen-OrderTie : (tie lacks bad : Bool) → (chosen tie lacks bad lists ≡ Err OrderTie) ↔ IsTrue tie
  chosen-OrderTie true lacks bad = (λ is. refl, λ is. refl)
  chosen-OrderTie false true bad = (λ is. cc, λ is. cc)
  chosen-OrderTie false false true = (λ is. cc, λ is. cc)
  chosen-OrderTie false false false = (λ is. cc, λ is. cc)

  chosen-NoReference : (tie lacks bad : Bool) → (chosen tie lacks bad lists ≡ Err NoReference) ↔ (IsFalse tie × IsTrue lacks)
  chosen-NoReference true lacks bad = (λ is. cc, λ is. let no = is.0 in cc)
  chosen-NoReference false true bad = (λ is. (refl, refl), λ is. refl)
  chosen-NoReference false false true = (λ is. cc, λ is. let no = is.1 in cc)
  chosen-NoReference false false false = (λ is. cc, λ is. let no = is.1 in cc)

  chosen-BadModification : (tie lacks bad : Bool) → (chosen tie lacks bad lists ≡ Err BadModification) ↔ (IsFalse tie × IsFalse lacks × IsTrue bad)
  chosen-BadModification true lacks bad = (λ is. cc, λ is. let no = is.0 in cc)
  chosen-BadModification false true bad = (λ is. cc, λ is. let no = is.1 in cc)
  chosen-BadModification false false true = (λ is. (refl, refl, refl), λ is. refl)
  chosen-BadModification false false false = (λ is. cc, λ is. let no = is.2 in cc)

  chosen-Ok : (P : A → Type 0) (tie lacks bad : Bool) → P lists → IfOk (chosen tie lacks bad lists) P
  chosen-Ok P true lacks bad h = tt
  chosen-Ok P false true bad h = tt
  chosen-Ok P false false true h = tt
  chosen-Ok P false false false h = h

module _ (sps : Sps) (frame_num : ℕ) (frames : List Frame) where
  -- no frame twice from an index on
  abbrev IsOnceFrom : ℕ → Entries → Type 0
  IsOnceFrom index entries = (place : ℕ) → count_by (is_entry_of place) (drop index entries) ≤ 1

  length-put_named : (index : ℕ) (place : Option ℕ) (entries : Entries) → index < length entries → IsOnceFrom index entries
      → length (put_named index place entries) ≡ length entries
  length-put_named index None entries inside once = refl
  length-put_named index (Some place) entries inside once = length-put index place entries inside (once place)

  once-put_named : (index : ℕ) (place : Option ℕ) (entries : Entries) → index < length entries → IsOnceFrom index entries
      → IsOnceFrom (index + 1) (put_named index place entries)
  once-put_named index None entries inside once other =
      omega (arith, ap (count_by (is_entry_of other)) (drop_more entries index None inside), sum_by-cons (λ (entry : Option ℕ). if is_entry_of other entry then 1 else 0) (get_or entries index None) (drop (index + 1) entries), once other)
  once-put_named index (Some place) entries inside once other = omega (arith, count_by-put index place entries inside (is_entry_of other), once other)

  length-modified_from : (index : ℕ) (last : ℤ) (entries : Entries) (commands : List RefPicListModification)
      → index + length commands ≤ length entries → IsOnceFrom index entries → length (modified_from sps frame_num frames index last entries commands) ≡ length entries
  length-modified_from index last entries [] fits once = refl
  length-modified_from index last entries (command ∷ commands) fits once =
      let number = no_wrap sps last command in
      let place = place_named sps frame_num frames number command in
      let long = length-put_named index place entries (omega arith) once in
      length-modified_from (suc index) number (put_named index place entries) commands (omega arith) (rw add-one at (once-put_named index place entries (omega arith) once)) ∙ long

  pub length-modified : (commands : List RefPicListModification) (entries : Entries) → IsOnceFrom 0 entries → length (modified sps frame_num frames commands entries) ≡ length entries
  length-modified commands entries once =
      length-modified_from 0 (curr_pic_num frame_num) entries (take (length entries) commands) (omega (arith, length-take (length entries) commands)) once

All-exchanged : (P : ℕ → Type 0) (list_0 places : List ℕ) → All P places → All P (exchanged list_0 places)
All-exchanged P list_0 [] all = all
All-exchanged P list_0 (place ∷ []) all = all
All-exchanged P list_0 (first ∷ second ∷ places) all =
    let later = All-tail P first (second ∷ places) all in
    ⊎_elim
    (λ same. rw same (All-cons P second (first ∷ places) (All-head P second places later) (All-cons P first places (All-head P first (second ∷ places) all) (All-tail P second places later))))
    (λ differs. rw differs all)
    (cases_Bool (pointwise nat_eq (first ∷ second ∷ places) list_0))

module _ (marks : Marked) where
  abbrev P : Option ℕ → Type 0
  P = IsMarked marks

  All-cut : (active : ℕ) (places : List ℕ) → All (λ place. place < length marks.frames) places → All P (cut active places)
  All-cut zero places all = All-nil P
  All-cut (suc active) [] all = All-cons P None (cut active []) tt (All-cut active [] all)
  All-cut (suc active) (place ∷ places) all =
      All-cons P (Some place) (cut active places) (All-head (λ p. p < length marks.frames) place places all)
      (All-cut active places (All-tail (λ p. p < length marks.frames) place places all))

  All-put_named : (index : ℕ) (place : Option ℕ) (entries : Entries) → P place → All P entries → All P (put_named index place entries)
  All-put_named index None entries here all = all
  All-put_named index (Some place) entries here all =
      let after = filter (λ entry. not (is_entry_of place entry)) (drop index entries) in
      All-take P (length entries) (take index entries ++ Some place ∷ after)
      (All-append P (take index entries) (Some place ∷ after) (All-take P index entries all)
      (All-cons P (Some place) after here (All-filter (λ entry. not (is_entry_of place entry)) P (drop index entries) (All-drop P index entries all))))

  IsMarked-position : (p : Frame → Bool) → P (position p marks.frames)
  IsMarked-position p = by (position p marks.frames) refl
    where
      by : (place : Option ℕ) → position p marks.frames ≡ place → P place
      by None is = tt
      by (Some place) is = let found = position-Some p marks.frames place is in omega (arith, found.0, found.1)

  module _ (sps : Sps) (frame_num : ℕ) where
    All-modified_from : (index : ℕ) (last : ℤ) (entries : Entries) (commands : List RefPicListModification) → All P entries
        → All P (modified_from sps frame_num marks.frames index last entries commands)
    All-modified_from index last entries [] all = all
    All-modified_from index last entries (command ∷ commands) all =
        let number = no_wrap sps last command in
        let place = place_named sps frame_num marks.frames number command in
        All-modified_from (suc index) number (put_named index place entries) commands
        (All-put_named index place entries (IsMarked-position (has_number sps frame_num (named sps frame_num number command))) all)

    below-initial_list : (order : ListOrder) → All (λ place. place < length marks.frames) (initial_list sps frame_num order marks.frames)
    below-initial_list order =
        let list = initial_list sps frame_num order marks.frames in
        All-weaker (Contains list) (λ place. place < length marks.frames)
        (λ place there. ((IsInitialList-initial_list sps frame_num order marks.frames).members place).0 there) list (All-contains_itself list)

  module _ (sps : Sps) (header : SliceHeader) where
    length-list_by : (active : ℕ) (commands : List RefPicListModification) (initial : List ℕ) → IsDistinct nat_eq initial
        → length (list_by marks sps header active commands initial) ≡ active
    length-list_by active commands initial distinct =
        length-modified sps header.frame_num marks.frames commands (cut active initial) (λ place. count_by-cut place active initial distinct) ∙ length-cut active initial

    All-list_by : (active : ℕ) (commands : List RefPicListModification) (initial : List ℕ) → All (λ place. place < length marks.frames) initial
        → All P (list_by marks sps header active commands initial)
    All-list_by active commands initial below =
        All-modified_from sps header.frame_num 0 (curr_pic_num header.frame_num) (cut active initial) (take (length (cut active initial)) commands) (All-cut active initial below)

    module _ (counts : Counts) where
      abbrev initial_0 : List ℕ
      initial_0 = initial_list sps header.frame_num (order_l0 header counts) marks.frames

      abbrev initial_1 : List ℕ
      initial_1 = initial_list sps header.frame_num (order_l1 counts) marks.frames

      abbrev tie : Bool
      tie = has_order_tie marks header counts

      abbrev lacks : Bool
      lacks = lacks_reference marks header

      abbrev bad : Bool
      bad = has_bad_modification marks sps header

      abbrev lists : Entries × Entries
      lists = (
        list_by marks sps header (active_l0 header) header.ref_pic_list_modification_l0 initial_0,
        list_by marks sps header (active_l1 header) header.ref_pic_list_modification_l1 (exchanged initial_0 initial_1),
      )

      pub lists_of-OrderTie : (lists_of marks sps header counts ≡ Err OrderTie) ↔ IsTrue (has_order_tie marks header counts)
      unfolding lists_of
      lists_of-OrderTie = chosen-OrderTie lists tie lacks bad

      pub lists_of-NoReference : (lists_of marks sps header counts ≡ Err NoReference)
          ↔ (IsFalse (has_order_tie marks header counts) × IsTrue (lacks_reference marks header))
      unfolding lists_of
      lists_of-NoReference = chosen-NoReference lists tie lacks bad

      pub lists_of-BadModification : (lists_of marks sps header counts ≡ Err BadModification)
          ↔ (IsFalse (has_order_tie marks header counts) × IsFalse (lacks_reference marks header) × IsTrue (has_bad_modification marks sps header))
      unfolding lists_of
      lists_of-BadModification = chosen-BadModification lists tie lacks bad

      -- the lists have as many entries as are active
      pub length-lists_of : IfOk (lists_of marks sps header counts) (λ lists. (length lists.0 ≡ active_l0 header) × (length lists.1 ≡ active_l1 header))
      unfolding lists_of
      length-lists_of = chosen-Ok lists (λ (lists : Entries × Entries). (length lists.0 ≡ active_l0 header) × (length lists.1 ≡ active_l1 header)) tie lacks bad (
        length-list_by (active_l0 header) header.ref_pic_list_modification_l0 initial_0 (IsDistinct-initial_list sps header.frame_num (order_l0 header counts) marks.frames),
        length-list_by (active_l1 header) header.ref_pic_list_modification_l1 (exchanged initial_0 initial_1)
            (IsDistinct-exchanged initial_0 initial_1 (IsDistinct-initial_list sps header.frame_num (order_l1 counts) marks.frames)),
      )

      -- each entry is missing or the place of a frame
      pub marked-lists_of : IfOk (lists_of marks sps header counts) (λ lists. All (IsMarked marks) lists.0 × All (IsMarked marks) lists.1)
      unfolding lists_of
      marked-lists_of = chosen-Ok lists (λ (lists : Entries × Entries). All P lists.0 × All P lists.1) tie lacks bad (
        All-list_by (active_l0 header) header.ref_pic_list_modification_l0 initial_0 (below-initial_list sps header.frame_num (order_l0 header counts)),
        All-list_by (active_l1 header) header.ref_pic_list_modification_l1 (exchanged initial_0 initial_1)
            (All-exchanged (λ place. place < length marks.frames) initial_0 initial_1 (below-initial_list sps header.frame_num (order_l1 counts))),
      )
