-- The first frame that passes a test, by its place among the frames.
use Rattle.std.proofs.Common.{◌≡◌, ℕ, suc, ◌+◌, ◌<◌, ◌∷◌, ◌++◌, Bool, true, false, cond, not, ltb, List, [], length, take, drop, get_or, set, filter, position, Option, Some, None, option_map, IsNone, IfSome, if◌then◌else◌, Result, Ok, Err, refl, sym, ◌∙◌, ap, arith, ℤ, pos}
use Rattle.std.proofs.lemmas.Bool.{false≢true}
use Rattle.std.proofs.lemmas.Bool.Decides.{nat_tests, Decides-ltb}
use Rattle.std.proofs.lemmas.List.{set_split}
use Rattle.std.proofs.lemmas.List.Quantifiers.{position-Some}
use Rattle.std.proofs.lemmas.Option.{same_Some}
use Rattle.std.specs.Bool.{Decides}
use Rattle.std.specs.List.{position_or_len}
use Rattle.std.specs.Option.{option_eq}
use Rattle.std.specs.Ordering.{int_eq}
use Rattle.h264_types.specs.declared.param_sets.sps.Sps.{Sps}
use Rattle.slice_decoding.specs.declared.ref_marking.fault.MarkFault.{MarkFault}
use Rattle.slice_decoding.specs.declared.ref_marking.fault.MarkFault.TheVariants.{BadMarking}
use Rattle.h264_types.specs.declared.pictures.frames.Frame.{Frame}
use Rattle.h264_types.specs.declared.pictures.frames.Term.{Term}
use Rattle.h264_types.specs.declared.pictures.frames.Term.TheVariants.{ShortTerm, LongTerm}
use Rattle.h264_types.specs.MarkedFrames.{Marked, holds, without_idx, as_long_term}
use Rattle.h264_types.specs.PicNums.{pic_num_of}
use Rattle.slice_decoding.specs.Steps.{Place}
use Rattle.slice_decoding.specs.MarksAfter.{first, after_frame, freed, without_at, has_pic_num, assigned}

-- one more element in front
one_more : (m n : ℕ) → cond (ltb (1 + m) (suc n)) (Some (1 + m)) None ≡ option_map suc (cond (ltb m n) (Some m) None)
one_more m n = by_test (ltb m n) (Decides-ltb m n) (ltb (1 + m) (suc n)) (Decides-ltb (1 + m) (suc n))
  where
    by_test : (here : Bool) → Decides here (m < n) → (after_frame : Bool) → Decides after_frame (1 + m < suc n) → cond after_frame (Some (1 + m)) None ≡ option_map suc (cond here (Some m) None)
    by_test true h true b = ap Some (omega arith)
    by_test true h false b = let t : m < n = h.0 refl in absurd (false≢true (b.1 (omega arith)))
    by_test false h true b = let t : 1 + m < suc n = b.0 refl in absurd (false≢true (h.1 (omega arith)))
    by_test false h false b = refl

pub position_after : (passes : Frame → Bool) (x : Frame) (xs : List Frame) → position passes (x ∷ xs) ≡ cond (passes x) (Some 0) (option_map suc (position passes xs))
position_after passes x xs = by_test (passes x)
  where
    by_test : (b : Bool) → cond (ltb (cond (not b) (1 + position_or_len passes xs) 0) (length (x ∷ xs))) (Some (cond (not b) (1 + position_or_len passes xs) 0)) None ≡ cond b (Some 0) (option_map suc (position passes xs))
    by_test true = grind (arith, nat_tests)
    by_test false = one_more (position_or_len passes xs) (length xs)

-- the place with this index
abbrev pub place_at : List Frame → Frame → ℕ → Place
place_at frames other i = record { earlier = take i frames; frame = get_or frames i other; later = drop (suc i) frames }

first_after : (passes : Frame → Bool) (x : Frame) (xs : List Frame) (other : Frame) (found : Option ℕ) → first passes xs ≡ option_map (place_at xs other) found → (b : Bool)
    → cond b (Some (let here : Place = record { earlier = []; frame = x; later = xs } in here)) (option_map (after_frame x) (first passes xs)) ≡ option_map (place_at (x ∷ xs) other) (cond b (Some 0) (option_map suc found))
first_after passes x xs other found is true = refl
first_after passes x xs other None is false = ap (option_map (after_frame x)) is
first_after passes x xs other (Some i) is false = ap (option_map (after_frame x)) is

pub first_is : (passes : Frame → Bool) (frames : List Frame) (other : Frame) → first passes frames ≡ option_map (place_at frames other) (position passes frames)
first_is passes [] other = refl
first_is passes (x ∷ xs) other =
    rw (position_after passes x xs) (first_after passes x xs other (position passes xs) (first_is passes xs other) (passes x))

-- any frame
other_frame : Frame
other_frame = record { id = 0; frame_num = 0; term = ShortTerm; counts = record { top = pos 0; bottom = pos 0 } }

-- the set without the first frame that passes, by its index
pub without_first : (fault : MarkFault) (marked : Marked) (passes : Frame → Bool) → without_at fault marked (position passes marked.frames) ≡ freed fault marked (first passes marked.frames)
without_first fault marked passes = rw (first_is passes marked.frames other_frame) (by_place (position passes marked.frames))
  where
    by_place : (found : Option ℕ) → without_at fault marked found ≡ freed fault marked (option_map (place_at marked.frames other_frame) found)
    by_place None = refl
    by_place (Some i) = refl

-- the same of a PicNum that was computed
pub short_term_left : (fault : MarkFault) (marked : Marked) (sps : Sps) (frame_num : ℕ) (computed number : ℤ) → computed ≡ number
    → without_at fault marked (position (has_pic_num sps frame_num computed) marked.frames) ≡ freed fault marked (first (has_pic_num sps frame_num number) marked.frames)
short_term_left fault marked sps frame_num computed number is =
    ap (λ n. without_at fault marked (position (has_pic_num sps frame_num n) marked.frames)) is ∙ without_first fault marked (has_pic_num sps frame_num number)

-- the same place among the frames that a filter keeps
abbrev pub kept : (Frame → Bool) → Place → Place
kept stays place = record { earlier = filter stays place.earlier; frame = place.frame; later = filter stays place.later }

after_kept : (stays : Frame → Bool) (x : Frame) → stays x ≡ true → (found : Option Place) → option_map (after_frame x) (option_map (kept stays) found) ≡ option_map (kept stays) (option_map (after_frame x) found)
after_kept stays x is None = refl
after_kept stays x is (Some place) = rw is refl

left_out_kept : (stays : Frame → Bool) (x : Frame) → stays x ≡ false → (found : Option Place) → option_map (kept stays) found ≡ option_map (kept stays) (option_map (after_frame x) found)
left_out_kept stays x is None = refl
left_out_kept stays x is (Some place) = rw is refl

kept_after : (passes stays : Frame → Bool) (x : Frame) (xs : List Frame) → (passes x ≡ true → stays x ≡ true) → first passes (filter stays xs) ≡ option_map (kept stays) (first passes xs)
    → (p s : Bool) → passes x ≡ p → stays x ≡ s → first passes (filter stays (x ∷ xs)) ≡ option_map (kept stays) (first passes (x ∷ xs))
kept_after passes stays x xs each so true s is stay = let keeps : stays x ≡ true = each is in rw (keeps, is) refl
kept_after passes stays x xs each so false true is stay = rw (stay, is) (ap (option_map (after_frame x)) so ∙ after_kept stays x stay (first passes xs))
kept_after passes stays x xs each so false false is stay = rw (stay, is) (so ∙ left_out_kept stays x stay (first passes xs))

-- a filter that keeps what passes keeps the first frame that passes
pub first_kept : (passes stays : Frame → Bool) → ((x : Frame) → passes x ≡ true → stays x ≡ true) → (frames : List Frame) → first passes (filter stays frames) ≡ option_map (kept stays) (first passes frames)
first_kept passes stays each [] = refl
first_kept passes stays each (x ∷ xs) = kept_after passes stays x xs (each x) (first_kept passes stays each xs) (passes x) (stays x) refl refl

-- a frame that has a PicNum holds no index
stays_short : (sps : Sps) (frame_num : ℕ) (number : ℤ) (idx : ℕ) (term : Term) (wrap : ℤ) → option_eq int_eq (pic_num_of term wrap) (Some number) ≡ true → not (holds idx term) ≡ true
stays_short sps frame_num number idx ShortTerm wrap is = refl
stays_short sps frame_num number idx (LongTerm held) wrap is = absurd (false≢true is)

-- the frames without the holders of an index, by the place of the frame that takes it
first_without : (sps : Sps) (frame_num : ℕ) (number : ℤ) (idx : ℕ) (frames : List Frame)
    → first (has_pic_num sps frame_num number) (without_idx idx frames) ≡ option_map (kept (λ frame. not (holds idx frame.term))) (first (has_pic_num sps frame_num number) frames)
first_without sps frame_num number idx frames =
    first_kept (has_pic_num sps frame_num number) (λ frame. not (holds idx frame.term)) (λ x is. stays_short sps frame_num number idx x.term _ is) frames

assigned_at : (idx : ℕ) (marked : Marked) (place : Place) (found : Option Place) → Some place ≡ option_map (kept (λ frame. not (holds idx frame.term))) found
    → (let after : Marked = record marked { frames = place.earlier ++ as_long_term idx place.frame ∷ place.later } in Ok after) ≡ assigned idx marked found
assigned_at idx marked place None is = cc
assigned_at idx marked place (Some found) is =
    let made : Place → Result Marked MarkFault = λ p. Ok (record marked { frames = p.earlier ++ as_long_term idx p.frame ∷ p.later }) in
    ap made (same_Some place (kept (λ frame. not (holds idx frame.term)) found) is)

-- the set with the index given to the frame at the place
given_at : (sps : Sps) (frame_num : ℕ) (number : ℤ) (idx : ℕ) (marked : Marked) (at : ℕ) (other : Frame)
    → position (has_pic_num sps frame_num number) (without_idx idx marked.frames) ≡ Some at
    → (let frames : List Frame = without_idx idx marked.frames in
    let after : Marked = record marked { frames = set frames at (as_long_term idx (get_or frames at other)) } in Ok after)
    ≡ assigned idx marked (first (has_pic_num sps frame_num number) marked.frames)
given_at sps frame_num number idx marked at other found =
    let frames : List Frame = without_idx idx marked.frames in
    let passes : Frame → Bool = has_pic_num sps frame_num number in
    let within : at < length frames = (position-Some passes frames at other found).0 in
    let made : List Frame → Result Marked MarkFault = λ fs. Ok (record marked { frames = fs }) in
    ap made (set_split frames at (as_long_term idx (get_or frames at other)) within) ∙ assigned_at idx marked (place_at frames other at) (first passes marked.frames)
    (ap (option_map (place_at frames other)) (sym found) ∙ (sym (first_is passes frames other) ∙ first_without sps frame_num number idx marked.frames))

-- no frame takes the index
none_at : (sps : Sps) (frame_num : ℕ) (number : ℤ) (idx : ℕ) (marked : Marked)
    → position (has_pic_num sps frame_num number) (without_idx idx marked.frames) ≡ None → Err BadMarking ≡ assigned idx marked (first (has_pic_num sps frame_num number) marked.frames)
none_at sps frame_num number idx marked found =
    let frames : List Frame = without_idx idx marked.frames in
    let passes : Frame → Bool = has_pic_num sps frame_num number in
    by_place (first passes marked.frames) (ap (option_map (place_at frames other_frame)) (sym found) ∙ (sym (first_is passes frames other_frame) ∙ first_without sps frame_num number idx marked.frames))
  where
    by_place : (place : Option Place) → None ≡ option_map (kept (λ frame. not (holds idx frame.term))) place → Err BadMarking ≡ assigned idx marked place
    by_place None none = refl
    by_place (Some place) none = cc

-- what giving the index at the place answers
pub assigned_is : (sps : Sps) (frame_num : ℕ) (number : ℤ) (idx : ℕ) (marked : Marked) (place : Option ℕ) (answer : Result Marked MarkFault)
    → place ≡ position (has_pic_num sps frame_num number) (without_idx idx marked.frames)
    → (IsNone place → answer ≡ Err BadMarking)
    → ((other : Frame) → IfSome place (λ at. let frames : List Frame = without_idx idx marked.frames in answer ≡ Ok (record marked { frames = set frames at (as_long_term idx (get_or frames at other)) })))
    → answer ≡ assigned idx marked (first (has_pic_num sps frame_num number) marked.frames)
assigned_is sps frame_num number idx marked None answer is none some = none refl ∙ none_at sps frame_num number idx marked (sym is)
assigned_is sps frame_num number idx marked (Some at) answer is none some = some other_frame ∙ given_at sps frame_num number idx marked at other_frame (sym is)

-- an index that was allowed
pub allowed_is : {A E : Type 0} (allows : Bool) (given idx : A) (fault : E) → Ok given ≡ (if allows then Ok idx else Err fault) → (allows ≡ true) × (given ≡ idx)
allowed_is true given idx fault is = (refl, cc)
allowed_is false given idx fault is = cc

some_like : {A : Type 0} (place : Option ℕ) (answer : A) (one two : ℕ → A) → ((at : ℕ) → one at ≡ two at) → IfSome place (λ at. answer ≡ one at) → IfSome place (λ at. answer ≡ two at)
some_like None answer one two same is = is
some_like (Some at) answer one two same is = is ∙ same at

-- the same with the index and the PicNum as they were computed
pub assigned_to : (sps : Sps) (frame_num : ℕ) (computed number : ℤ) (given idx : ℕ) (marked left : Marked) (place : Option ℕ) (answer : Result Marked MarkFault)
    → computed ≡ number → given ≡ idx → left ≡ record marked { frames = without_idx given marked.frames }
    → place ≡ position (has_pic_num sps frame_num computed) left.frames
    → (IsNone place → answer ≡ Err BadMarking)
    → ((other : Frame) → IfSome place (λ at. answer ≡ Ok (record left { frames = set left.frames at (as_long_term given (get_or left.frames at other)) })))
    → answer ≡ assigned idx marked (first (has_pic_num sps frame_num number) marked.frames)
assigned_to sps frame_num computed number given idx marked left place answer same_number same_idx is found none some =
    let made : Marked → ℕ → Frame → ℕ → Result Marked MarkFault = λ m i other at. Ok (record m { frames = set m.frames at (as_long_term i (get_or m.frames at other)) }) in
    let without : ℕ → Marked = λ i. record marked { frames = without_idx i marked.frames } in
    let is' : left ≡ without idx = is ∙ ap without same_idx in
    assigned_is sps frame_num number idx marked place answer
    (found ∙ (ap (λ (m : Marked). position (has_pic_num sps frame_num computed) m.frames) is' ∙ ap (λ z. position (has_pic_num sps frame_num z) (without_idx idx marked.frames)) same_number))
    none
    (λ other. some_like place answer (made left given other) (made (without idx) idx other) (λ at. ap (λ m. made m given other at) is' ∙ ap (λ i. made (without idx) i other at) same_idx) (some other))
