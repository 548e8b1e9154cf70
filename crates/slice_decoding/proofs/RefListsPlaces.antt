-- The initial list of frames: there is one, and sorting the frames' standings gives it.
use Rattle.std.proofs.Common.{◌≡◌, ℕ, ◌+◌, ◌<◌, false, nat_eq, List, [], ◌∷◌, length, map, get_or, slice_get, All, IsPermutation, IsSortedBy, Option, Some, None, int_lt, refl, sym, ◌∙◌, ⊎_elim, arith, zero-add}
use Rattle.std.specs.declared.cmp.Ordering.{Ordering}
use Rattle.std.specs.declared.cmp.Ordering.TheVariants.{Less, Equal, Greater}
use Rattle.std.specs.Ordering.{is_lt, nat_cmp, ordering_then}
use Rattle.std.specs.Cmp.{IsTotalOrder}
use Rattle.std.specs.List.{IsDistinct, range_with_len}
use Rattle.std.specs.List.Sorted.{IsStrictlySortedBy}
use Rattle.std.proofs.lemmas.Bool.{cases_Bool, ne_eqb, eqb-false}
use Rattle.std.proofs.lemmas.Bool.Decides.{nat_tests}
use Rattle.std.proofs.lemmas.Cmp.{nat_cmp_total, int_cmp_total, on_total, then_total, tied_itself, ranked}
use Rattle.std.proofs.lemmas.List.{get_or-map, length-map}
use Rattle.std.proofs.lemmas.List.Elements.{All-map, All-contains}
use Rattle.std.proofs.lemmas.List.FromFn.{length-range_with_len, get_or-range_with_len}
use Rattle.std.proofs.lemmas.List.Sorted.{IsPermutation-map, IsPermutation-sym, All-permutation, Contains-permutation}
use Rattle.std.proofs.lemmas.Map.Keys.{IsDistinct-from_apart, IsDistinct-IsPermutation, apart_from_distinct, Less-from_sorted, sorted_from_all_adjacent}
use lib.Pointwise.{pointwise}
use Rattle.h264_types.specs.declared.param_sets.sps.Sps.{Sps}
use Rattle.h264_types.specs.PicOrderCnt.{pic_order_cnt}
use Rattle.h264_types.specs.PicNums.{long_term_pic_num}
use Rattle.h264_types.specs.declared.pictures.frames.Frame.{Frame}
use Rattle.slice_decoding.specs.declared.ref_lists.initial_lists.ListOrder.{ListOrder}
use Rattle.slice_decoding.specs.declared.ref_lists.initial_lists.ListOrder.TheVariants.{ByPicNum, BelowFirst, AboveFirst}
use Rattle.slice_decoding.specs.declared.ref_lists.initial_lists.Standing.{Standing}
use Rattle.slice_decoding.specs.InitialLists.{group_index, compare, standing_by, short_term_standing, standing_of, standing_at, place_cmp, IsInitialList, initial_list, exchanged}
use Rattle.slice_decoding.proofs.Sorting.{Among, Among-from_Contains, Contains-from_Among, same_sorted, turned, Among-sorted_below, sorted_below_among, sorted-sorted_below}

compare_total : IsTotalOrder compare
compare_total = then_total (on_total (λ (s : Standing). group_index s.group) nat_cmp_total)
    (then_total (on_total (λ (s : Standing). s.number) int_cmp_total) (on_total (λ (s : Standing). s.place) nat_cmp_total))

Equal-then : (first second : Ordering) → ordering_then first second ≡ Equal → second ≡ Equal
Equal-then Less second is = cc
Equal-then Equal second is = is
Equal-then Greater second is = cc

Equal-nat_cmp : (place other : ℕ) → nat_cmp place other ≡ Equal → place ≡ other
Equal-nat_cmp place other is = rw is at (ranked place other (nat_cmp place other) refl)

-- a standing is of its own place
place-short_term_standing : (sps : Sps) (frame_num : ℕ) (order : ListOrder) (frame : Frame) (place : ℕ) → (short_term_standing sps frame_num order frame place).place ≡ place
place-short_term_standing sps frame_num ByPicNum frame place = refl
place-short_term_standing sps frame_num (BelowFirst picture) frame place =
    ⊎_elim (λ below. rw below refl) (λ above. rw above refl) (cases_Bool (int_lt (pic_order_cnt frame.counts) picture))
place-short_term_standing sps frame_num (AboveFirst picture) frame place =
    ⊎_elim (λ below. rw below refl) (λ above. rw above refl) (cases_Bool (int_lt (pic_order_cnt frame.counts) picture))

place-standing_by : (number : Option ℕ) (short_term : Standing) (place : ℕ) → short_term.place ≡ place → (standing_by number short_term place).place ≡ place
place-standing_by None short_term place is = is
place-standing_by (Some number) short_term place is = refl

place-standing_of : (sps : Sps) (frame_num : ℕ) (order : ListOrder) (frame : Option Frame) (place : ℕ) → (standing_of sps frame_num order frame place).place ≡ place
place-standing_of sps frame_num order None place = refl
place-standing_of sps frame_num order (Some frame) place =
    place-standing_by (long_term_pic_num frame) (short_term_standing sps frame_num order frame place) place (place-short_term_standing sps frame_num order frame place)

pub eq_flips : (place other : ℕ) → nat_eq place other ≡ nat_eq other place
eq_flips place other = grind (arith, nat_tests)

module _ (sps : Sps) (frame_num : ℕ) (order : ListOrder) (frames : List Frame) where
  abbrev cmp : ℕ → ℕ → Ordering
  cmp = place_cmp sps frame_num order frames

  abbrev at : ℕ → Standing
  at = standing_at sps frame_num order frames

  place-at : (place : ℕ) → (at place).place ≡ place
  place-at place = place-standing_of sps frame_num order (slice_get frames place) place

  total : IsTotalOrder cmp
  total = on_total at compare_total

  -- no two places stand alike
  exact : (place other : ℕ) → cmp place other ≡ Equal → place ≡ other
  exact place other is =
      let numbers = Equal-then _ _ is in
      let places = Equal-then _ _ numbers in
      sym (place-at place) ∙ Equal-nat_cmp (at place).place (at other).place places ∙ place-at other

  -- a list in order of all the places is an initial list
  IsInitialList-from_sorted : (places : List ℕ) → IsStrictlySortedBy cmp places
      → ((place : ℕ) → Among places place → place < length frames) → ((place : ℕ) → place < length frames → Among places place)
      → IsInitialList sps frame_num order frames places
  IsInitialList-from_sorted places sorted only all = record {
    members = λ place. (
      λ there. only place (Among-from_Contains places place there),
      λ below. Contains-from_Among places place (all place below),
    );
    once = λ i j d before below same.
        let less = Less-from_sorted cmp places i j d sorted before below in
        let tied = tied_itself total (get_or places i d) in
        let less_itself = rw (← same) at less in
        cc;
    in_order = λ k below. Less-from_sorted cmp places k (k + 1) 0 sorted (omega arith) below;
  }

  -- the function gives an initial list
  pub IsInitialList-initial_list : IsInitialList sps frame_num order frames (initial_list sps frame_num order frames)
  unfolding initial_list
  IsInitialList-initial_list = IsInitialList-from_sorted (initial_list sps frame_num order frames)
      (sorted-sorted_below cmp total exact (length frames))
      (λ place there. Among-sorted_below cmp total exact (length frames) place there)
      (λ place below. sorted_below_among cmp total exact (length frames) place below)

  -- and there is no other
  pub initial_list-only : (places : List ℕ) → IsInitialList sps frame_num order frames places → places ≡ initial_list sps frame_num order frames
  unfolding initial_list
  initial_list-only places list = same_sorted cmp total places (initial_list sps frame_num order frames)
      (sorted_from_all_adjacent total places 0 list.in_order)
      (sorted-sorted_below cmp total exact (length frames))
      (λ place there. sorted_below_among cmp total exact (length frames) place ((list.members place).0 (Contains-from_Among places place there)))
      (λ place there. Among-from_Contains places place ((list.members place).1 (Among-sorted_below cmp total exact (length frames) place there)))

  places_at : (places : List ℕ) → map (λ (s : Standing). s.place) (map at places) ≡ places
  places_at [] = refl
  places_at (place ∷ places) = let rest = places_at places in let here = place-at place in cc

  -- the places below a number differ
  range_distinct : (count : ℕ) → IsDistinct nat_eq (range_with_len 0 count)
  range_distinct count = IsDistinct-from_apart nat_eq (range_with_len 0 count) (λ i j d before below.
      let long = length-range_with_len 0 count in
      rw (get_or-range_with_len 0 count i d (omega arith), get_or-range_with_len 0 count j d (omega arith)) (ne_eqb (0 + i) (0 + j) (omega arith)))

  -- the standings of the frames, in order, give the places of the one list
  module _ (standings : List Standing) (same : IsPermutation (map at (range_with_len 0 (length frames))) standings)
      (sorted : IsSortedBy (λ s t. is_lt (compare s t)) standings) where
    abbrev places : List ℕ
    places = map (λ (s : Standing). s.place) standings

    same_places : IsPermutation (range_with_len 0 (length frames)) places
    same_places = rw places_at at (IsPermutation-map (λ (s : Standing). s.place) (map at (range_with_len 0 (length frames))) standings same)

    each_at : All (λ (s : Standing). s ≡ at s.place) standings
    each_at = All-permutation (λ (s : Standing). s ≡ at s.place) (map at (range_with_len 0 (length frames))) standings same
        (All-map (λ (s : Standing). s ≡ at s.place) at (range_with_len 0 (length frames)) (λ k d below. rw place-at refl))

    neighbours : (k : ℕ) → k + 1 < length places → cmp (get_or places k 0) (get_or places (k + 1) 0) ≡ Less
    neighbours k below =
        let long = length-map standings (λ (s : Standing). s.place) in
        let d = at 0 in
        let this = get_or-map (λ (s : Standing). s.place) standings k d 0 (omega arith) in
        let next = get_or-map (λ (s : Standing). s.place) standings (k + 1) d 0 (omega arith) in
        let distinct = IsDistinct-IsPermutation nat_eq eq_flips (range_with_len 0 (length frames)) places same_places (range_distinct (length frames)) in
        let apart = apart_from_distinct nat_eq places k (k + 1) 0 distinct (omega arith) below in
        let unordered : is_lt (cmp (get_or places (k + 1) 0) (get_or places k 0)) ≡ false =
        rw (this, next, ← each_at k d (omega arith), ← each_at (k + 1) d (omega arith)) (sorted k d (omega arith) (omega arith)) in
        turned cmp total exact (get_or places (k + 1) 0) (get_or places k 0) unordered (λ is. eqb-false _ _ apart (sym is))

    among_below : (place : ℕ) → Among places place → place < length frames
    among_below place there =
        All-contains (λ p. p < length frames) (range_with_len 0 (length frames)) place
        (λ k d below. let near : k < length frames = rw length-range_with_len at below in rw (get_or-range_with_len 0 (length frames) k d near) (omega arith))
        (Contains-permutation places (range_with_len 0 (length frames)) place (IsPermutation-sym (range_with_len 0 (length frames)) places same_places) (Contains-from_Among places place there))

    below_among : (place : ℕ) → place < length frames → Among places place
    below_among place below = Among-from_Contains places place
        (Contains-permutation (range_with_len 0 (length frames)) places place same_places
        (place, rw length-range_with_len below, get_or-range_with_len 0 (length frames) place place below ∙ zero-add place))

    pub initial_list-from_sort : places ≡ initial_list sps frame_num order frames
    initial_list-from_sort = initial_list-only places
        (IsInitialList-from_sorted places (sorted_from_all_adjacent total places 0 neighbours) among_below below_among)

  -- no place stands twice in the one list
  pub IsDistinct-initial_list : IsDistinct nat_eq (initial_list sps frame_num order frames)
  IsDistinct-initial_list = IsDistinct-from_apart nat_eq (initial_list sps frame_num order frames)
      (λ i j d before below. ne_eqb _ _ (IsInitialList-initial_list.once i j d before below))

-- nor where two of them change places
pub IsDistinct-exchanged : (list_0 places : List ℕ) → IsDistinct nat_eq places → IsDistinct nat_eq (exchanged list_0 places)
unfolding IsDistinct
IsDistinct-exchanged list_0 [] distinct = distinct
IsDistinct-exchanged list_0 (place ∷ []) distinct = distinct
IsDistinct-exchanged list_0 (first ∷ second ∷ places) distinct = ⊎_elim
    (λ same. rw same ((eq_flips second first ∙ distinct.0.0, distinct.1.0), (distinct.0.1, distinct.1.1)))
    (λ differs. rw differs distinct)
    (cases_Bool (pointwise nat_eq (first ∷ second ∷ places) list_0))
