-- The first frame that is so is what `first` gives, for a test that agrees.
use Rattle.std.proofs.Common.{◌≡◌, ◌++◌, ◌∷◌, Bool, true, false, cond, List, [], All, Option, Some, None, option_map, refl, sym, ◌∙◌, ap, subst}
use Rattle.std.specs.Bool.{Decides}
use Rattle.std.proofs.lemmas.Bool.Decides.{not_from_Decides}
use Rattle.std.proofs.lemmas.List.Elements.{All-nil, All-cons, All-head, All-tail, All-same}
use Rattle.std.proofs.lemmas.Option.{same_Some}
use Rattle.h264_types.specs.declared.pictures.frames.Frame.{Frame}
use Rattle.slice_decoding.specs.Steps.{Place, IsFirst}
use Rattle.slice_decoding.specs.MarksAfter.{first, after_frame}

-- the test says of each frame whether it is so
abbrev pub Agrees : (Frame → Bool) → (Frame → Type 0) → List Frame → Type 0
Agrees passes IsSo frames = All (λ frame. Decides (passes frame) (IsSo frame)) frames

not_so : {P : Type 0} (passes : Bool) → Decides passes P → ¬ P → passes ≡ false
not_so true decides never = absurd (never (decides.0 refl))
not_so false decides never = refl

some_after : (IsSo : Frame → Type 0) (x : Frame) (xs : List Frame) (place : Place) (passes : Bool) → Decides passes (IsSo x) → (found : Option Place)
    → ((inner : Place) → found ≡ Some inner → IsFirst IsSo xs inner)
    → cond passes (Some (let here : Place = record { earlier = []; frame = x; later = xs } in here)) (option_map (after_frame x) found) ≡ Some place → IsFirst IsSo (x ∷ xs) place
some_after IsSo x xs place true decides found inner is =
    let here : Place = record { earlier = []; frame = x; later = xs } in
    let at_front : IsFirst IsSo (x ∷ xs) here = record { frames_are = refl; is_so = decides.0 refl; none_before = All-nil (λ frame. ¬ IsSo frame) } in
    subst (IsFirst IsSo (x ∷ xs)) (same_Some here place is) at_front
some_after IsSo x xs place false decides None inner is = cc
some_after IsSo x xs place false decides (Some later) inner is =
    let h = inner later refl in
    let further : IsFirst IsSo (x ∷ xs) (after_frame x later) = record {
      frames_are = ap (λ frames. x ∷ frames) h.frames_are;
      is_so = h.is_so;
      none_before = All-cons (λ frame. ¬ IsSo frame) x later.earlier (not_from_Decides false decides refl) h.none_before;
    } in
    subst (IsFirst IsSo (x ∷ xs)) (same_Some (after_frame x later) place is) further

pub first_some : (passes : Frame → Bool) (IsSo : Frame → Type 0) (frames : List Frame) (place : Place) → Agrees passes IsSo frames → first passes frames ≡ Some place → IsFirst IsSo frames place
first_some passes IsSo [] place agrees is = cc
first_some passes IsSo (x ∷ xs) place agrees is =
    some_after IsSo x xs place (passes x) (All-head (λ frame. Decides (passes frame) (IsSo frame)) x xs agrees) (first passes xs)
    (λ inner found. first_some passes IsSo xs inner (All-tail (λ frame. Decides (passes frame) (IsSo frame)) x xs agrees) found) is

none_after : (IsSo : Frame → Type 0) (x : Frame) (xs : List Frame) (passes : Bool) → Decides passes (IsSo x) → (found : Option Place)
    → (found ≡ None → All (λ frame. ¬ IsSo frame) xs)
    → cond passes (Some (let here : Place = record { earlier = []; frame = x; later = xs } in here)) (option_map (after_frame x) found) ≡ None → All (λ frame. ¬ IsSo frame) (x ∷ xs)
none_after IsSo x xs true decides found inner is = cc
none_after IsSo x xs false decides None inner is = All-cons (λ frame. ¬ IsSo frame) x xs (not_from_Decides false decides refl) (inner refl)
none_after IsSo x xs false decides (Some later) inner is = cc

pub first_none : (passes : Frame → Bool) (IsSo : Frame → Type 0) (frames : List Frame) → Agrees passes IsSo frames → first passes frames ≡ None → All (λ frame. ¬ IsSo frame) frames
first_none passes IsSo [] agrees is = All-nil (λ frame. ¬ IsSo frame)
first_none passes IsSo (x ∷ xs) agrees is =
    none_after IsSo x xs (passes x) (All-head (λ frame. Decides (passes frame) (IsSo frame)) x xs agrees) (first passes xs)
    (λ found. first_none passes IsSo xs (All-tail (λ frame. Decides (passes frame) (IsSo frame)) x xs agrees) found) is

first_at : (passes : Frame → Bool) (IsSo : Frame → Type 0) (earlier : List Frame) (frame : Frame) (later : List Frame) → Agrees passes IsSo (earlier ++ frame ∷ later)
    → IsSo frame → All (λ other. ¬ IsSo other) earlier → first passes (earlier ++ frame ∷ later) ≡ Some (record { earlier = earlier; frame = frame; later = later })
first_at passes IsSo [] frame later agrees so none =
    let e : passes frame ≡ true = (All-head (λ other. Decides (passes other) (IsSo other)) frame later agrees).1 so in rw e refl
first_at passes IsSo (x ∷ earlier) frame later agrees so none =
    let decides = All-head (λ other. Decides (passes other) (IsSo other)) x (earlier ++ frame ∷ later) agrees in
    let e : passes x ≡ false = not_so (passes x) decides (All-head (λ other. ¬ IsSo other) x earlier none) in
    rw e (ap (option_map (after_frame x)) (first_at passes IsSo earlier frame later (All-tail (λ other. Decides (passes other) (IsSo other)) x (earlier ++ frame ∷ later) agrees) so (All-tail (λ other. ¬ IsSo other) x earlier none)))

pub first_only : (passes : Frame → Bool) (IsSo : Frame → Type 0) (frames : List Frame) (place : Place) → Agrees passes IsSo frames → IsFirst IsSo frames place → first passes frames ≡ Some place
first_only passes IsSo frames place agrees h =
    ap (first passes) h.frames_are
    ∙ first_at passes IsSo place.earlier place.frame place.later (All-same (λ other. Decides (passes other) (IsSo other)) (place.earlier ++ place.frame ∷ place.later) frames (sym h.frames_are) agrees) h.is_so h.none_before

pub none_only : (passes : Frame → Bool) (IsSo : Frame → Type 0) (frames : List Frame) → Agrees passes IsSo frames → All (λ frame. ¬ IsSo frame) frames → first passes frames ≡ None
none_only passes IsSo [] agrees none = refl
none_only passes IsSo (x ∷ xs) agrees none =
    let e : passes x ≡ false = not_so (passes x) (All-head (λ other. Decides (passes other) (IsSo other)) x xs agrees) (All-head (λ other. ¬ IsSo other) x xs none) in
    rw e (ap (option_map (after_frame x)) (none_only passes IsSo xs (All-tail (λ other. Decides (passes other) (IsSo other)) x xs agrees) (All-tail (λ other. ¬ IsSo other) x xs none)))
