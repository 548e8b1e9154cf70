-- The short-term frame of the least FrameNumWrap.
use Rattle.std.proofs.Common.{◌≡◌, ◌⊎◌, ◌∷◌, ◌≤ℤ◌, ℕ, ℤ, List, [], All, Contains, fold, filter_map, Option, Some, None, IfSome, refl, sym, ◌∙◌, ap, subst, arith, inl, inr}
use Rattle.std.specs.Bool.{Decides}
use Rattle.std.specs.Int.{int_min}
use Rattle.std.specs.List.{reduce, cons_option}
use Rattle.std.proofs.lemmas.Int.{ints, fold-int_min_bounds, fold-int_min_reached}
use Rattle.std.proofs.lemmas.List.Elements.{All-nil, All-cons, All-head, All-tail, All-contains, All-contains_itself, All-weaker, Contains-append_cases, Contains-append_left, Contains-append_right, Contains-push, Contains-push_cases}
use Rattle.std.proofs.lemmas.Option.{same_Some}
use Rattle.h264_types.specs.declared.param_sets.sps.Sps.{Sps}
use Rattle.h264_types.specs.declared.pictures.frames.Frame.{Frame}
use Rattle.h264_types.specs.PicNums.{pic_num}
use Rattle.slice_decoding.specs.SlidingWindow.{HasLeastFrameNumWrap}
use Rattle.slice_decoding.specs.MarksAfter.{has_pic_num}
use Rattle.slice_decoding.proofs.Firsts.{Agrees}
use Rattle.slice_decoding.proofs.Decisions.{number_decides}

-- what holds of the numbers holds of each frame that has one
all_after : (number : Frame → Option ℤ) (P : ℤ → Type 0) (x : Frame) (xs : List Frame) (numbers : List ℤ) (found : Option ℤ) → number x ≡ found
    → (All P numbers → All (λ frame. IfSome (number frame) P) xs) → All P (cons_option found numbers) → All (λ frame. IfSome (number frame) P) (x ∷ xs)
all_after number P x xs numbers None is others all =
    let here : IfSome (number x) P = rw is tt in All-cons (λ frame. IfSome (number frame) P) x xs here (others all)
all_after number P x xs numbers (Some n) is others all =
    let here : IfSome (number x) P = rw is (All-head P n numbers all) in
    All-cons (λ frame. IfSome (number frame) P) x xs here (others (All-tail P n numbers all))

pub all_numbered : (number : Frame → Option ℤ) (P : ℤ → Type 0) (frames : List Frame) → All P (filter_map number frames) → All (λ frame. IfSome (number frame) P) frames
all_numbered number P [] all = All-nil (λ frame. IfSome (number frame) P)
all_numbered number P (x ∷ xs) all = all_after number P x xs (filter_map number xs) (number x) refl (all_numbered number P xs) all

-- an element of a list is the first, or one after it
among : {A : Type 0} (x : A) (xs : List A) (y : A) → Contains (x ∷ xs) y → (x ≡ y) ⊎ Contains xs y
among x xs y there = elim (Contains-append_cases (x ∷ []) xs y there) [
  | inl first ↦ elim (Contains-push_cases [] x y first) [ inl none ↦ absurd (omega (arith, none.1)) | inr same ↦ inl same ]
  | inr later ↦ inr later
]

-- a frame of this number
pub record Has (number : Frame → Option ℤ) (frames : List Frame) (n : ℤ) : Type 0 where
  pub frame : Frame
  pub among_them : Contains frames frame
  pub numbered : number frame ≡ Some n

has_more : (number : Frame → Option ℤ) (x : Frame) (xs : List Frame) (n : ℤ) → Has number xs n → Has number (x ∷ xs) n
has_more number x xs n h = record { frame = h.frame; among_them = Contains-append_right (x ∷ []) xs h.frame h.among_them; numbered = h.numbered }

has_after : (number : Frame → Option ℤ) (x : Frame) (xs : List Frame) (numbers : List ℤ) (n : ℤ) (found : Option ℤ) → number x ≡ found
    → (Contains numbers n → Has number xs n) → Contains (cons_option found numbers) n → Has number (x ∷ xs) n
has_after number x xs numbers n None is others there = has_more number x xs n (others there)
has_after number x xs numbers n (Some m) is others there = elim (among m numbers n there) [
  | inl same ↦ record { frame = x; among_them = Contains-append_left (x ∷ []) xs x (Contains-push [] x); numbered = is ∙ ap (λ (z : ℤ). Some z) same }
  | inr later ↦ has_more number x xs n (others later)
]

pub has_numbered : (number : Frame → Option ℤ) (frames : List Frame) (n : ℤ) → Contains (filter_map number frames) n → Has number frames n
has_numbered number [] n there = absurd (omega (arith, there.1))
has_numbered number (x ∷ xs) n there = has_after number x xs (filter_map number xs) n (number x) refl (has_numbered number xs n) there

-- the least of some numbers bounds them, and is one of them
least_bounds : (numbers : List ℤ) (least : ℤ) → reduce int_min numbers ≡ Some least → All (λ n. least ≤ℤ n) numbers × Contains numbers least
least_bounds [] least is = cc
least_bounds (x ∷ xs) least is =
    let r = sym (same_Some (fold int_min x xs) least is) in
    let bounds = fold-int_min_bounds x xs least r in (
      All-cons (λ n. least ≤ℤ n) x xs bounds.0 bounds.1,
      elim (fold-int_min_reached x xs least r) [
        | inl first ↦ subst (Contains (x ∷ xs)) (sym first) (Contains-append_left (x ∷ []) xs x (Contains-push [] x))
        | inr later ↦ Contains-append_right (x ∷ []) xs least later
      ],
    )

both_ways : (a b : ℤ) → a ≤ℤ b → b ≤ℤ a → a ≡ b
both_ways a b ab ba = omega (arith, ints)

least_decides : (sps : Sps) (frame_num : ℕ) (frames : List Frame) (least : ℤ) → All (λ frame. IfSome (pic_num sps frame_num frame) (λ n. least ≤ℤ n)) frames → Has (pic_num sps frame_num) frames least
    → (frame : Frame) → Contains frames frame → Decides (has_pic_num sps frame_num least frame) (HasLeastFrameNumWrap sps frame_num frames frame)
least_decides sps frame_num frames least bounds has frame member =
    let decides = number_decides (pic_num sps frame_num frame) least in (
      λ is. (least, decides.0 is, bounds),
      λ h.
          let below = subst (λ found. IfSome found (λ n. h.0 ≤ℤ n)) has.numbered (All-contains (λ other. IfSome (pic_num sps frame_num other) (λ n. h.0 ≤ℤ n)) frames has.frame h.2 has.among_them) in
          let above = subst (λ found. IfSome found (λ n. least ≤ℤ n)) h.1 (All-contains (λ other. IfSome (pic_num sps frame_num other) (λ n. least ≤ℤ n)) frames frame bounds member) in
          decides.1 (h.1 ∙ ap (λ (z : ℤ). Some z) (both_ways h.0 least below above)),
    )

-- the frame of the least number is the one of the least FrameNumWrap
pub least_agrees : (sps : Sps) (frame_num : ℕ) (frames : List Frame) (least : ℤ) → reduce int_min (filter_map (pic_num sps frame_num) frames) ≡ Some least
    → Agrees (has_pic_num sps frame_num least) (HasLeastFrameNumWrap sps frame_num frames) frames
least_agrees sps frame_num frames least is =
    let facts = least_bounds (filter_map (pic_num sps frame_num) frames) least is in
    let bounds = all_numbered (pic_num sps frame_num) (λ n. least ≤ℤ n) frames facts.0 in
    All-weaker (Contains frames) (λ frame. Decides (has_pic_num sps frame_num least frame) (HasLeastFrameNumWrap sps frame_num frames frame))
    (least_decides sps frame_num frames least bounds (has_numbered (pic_num sps frame_num) frames least facts.1)) frames (All-contains_itself frames)

no_number : {A : Type 0} (found : Option A) → IfSome found (λ n. ⊥) → found ≡ None
no_number None none = refl
no_number (Some n) none = absurd none

least_none : (numbers : List ℤ) → reduce int_min numbers ≡ None → All (λ n. ⊥) numbers
least_none [] is = All-nil (λ n. ⊥)
least_none (x ∷ xs) is = cc

-- without short-term frames there is none of the least FrameNumWrap
pub none_agrees : (sps : Sps) (frame_num : ℕ) (frames : List Frame) → reduce int_min (filter_map (pic_num sps frame_num) frames) ≡ None
    → All (λ frame. ¬ HasLeastFrameNumWrap sps frame_num frames frame) frames
none_agrees sps frame_num frames is =
    All-weaker (λ frame. IfSome (pic_num sps frame_num frame) (λ n. ⊥)) (λ frame. ¬ HasLeastFrameNumWrap sps frame_num frames frame)
    (λ frame none h. let never = sym (no_number (pic_num sps frame_num frame) none) ∙ h.1 in cc) frames
    (all_numbered (pic_num sps frame_num) (λ n. ⊥) frames (least_none (filter_map (pic_num sps frame_num) frames) is))
