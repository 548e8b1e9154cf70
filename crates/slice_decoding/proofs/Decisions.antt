-- What the tests on frames and indices decide.
use Rattle.std.proofs.Common.{◌≡◌, ◌≤◌, ◌∷◌, ℕ, ℤ, Bool, eqb, nat_le, List, [], Option, Some, None, IsSomeAnd, ap}
use Rattle.std.specs.Bool.{Decides}
use Rattle.std.specs.Option.{option_eq}
use Rattle.std.specs.Ordering.{int_eq}
use Rattle.std.proofs.lemmas.Bool.{false≢true, leb-true, le-leb}
use Rattle.std.proofs.lemmas.Bool.Decides.{Decides-eqb, Decides-int_eq, Decides-like}
use Rattle.std.proofs.lemmas.List.Elements.{All-nil, All-cons}
use Rattle.std.proofs.lemmas.Option.{same_Some, none-some}
use Rattle.h264_types.specs.declared.param_sets.sps.Sps.{Sps}
use Rattle.h264_types.specs.declared.pictures.frames.Frame.{Frame}
use Rattle.h264_types.specs.PicNums.{pic_num, long_term_pic_num}
use Rattle.slice_decoding.specs.MarksAfter.{has_pic_num, has_long_term_pic_num, allows_idx}
use Rattle.slice_decoding.proofs.Firsts.{Agrees}

pub number_decides : (found : Option ℤ) (number : ℤ) → Decides (option_eq int_eq found (Some number)) (found ≡ Some number)
number_decides None number = (λ is. absurd (false≢true is), λ is. absurd (none-some number is))
number_decides (Some other) number =
    Decides-like (int_eq other number) (λ is. ap (λ (n : ℤ). Some n) is) (same_Some other number) (Decides-int_eq other number)

index_decides : (found : Option ℕ) (number : ℕ) → Decides (option_eq eqb found (Some number)) (found ≡ Some number)
index_decides None number = (λ is. absurd (false≢true is), λ is. absurd (none-some number is))
index_decides (Some other) number =
    Decides-like (eqb other number) (λ is. ap (λ (n : ℕ). Some n) is) (same_Some other number) (Decides-eqb other number)

-- of each frame
pub everywhere : (passes : Frame → Bool) (IsSo : Frame → Type 0) → ((frame : Frame) → Decides (passes frame) (IsSo frame)) → (frames : List Frame) → Agrees passes IsSo frames
everywhere passes IsSo each [] = All-nil (λ frame. Decides (passes frame) (IsSo frame))
everywhere passes IsSo each (x ∷ xs) = All-cons (λ frame. Decides (passes frame) (IsSo frame)) x xs (each x) (everywhere passes IsSo each xs)

pub has_pic_num_agrees : (sps : Sps) (frame_num : ℕ) (number : ℤ) (frames : List Frame) → Agrees (has_pic_num sps frame_num number) (λ frame. pic_num sps frame_num frame ≡ Some number) frames
has_pic_num_agrees sps frame_num number =
    everywhere (has_pic_num sps frame_num number) (λ frame. pic_num sps frame_num frame ≡ Some number) (λ frame. number_decides (pic_num sps frame_num frame) number)

pub has_long_term_pic_num_agrees : (number : ℕ) (frames : List Frame) → Agrees (has_long_term_pic_num number) (λ frame. long_term_pic_num frame ≡ Some number) frames
has_long_term_pic_num_agrees number =
    everywhere (has_long_term_pic_num number) (λ frame. long_term_pic_num frame ≡ Some number) (λ frame. index_decides (long_term_pic_num frame) number)

pub le_decides : (a b : ℕ) → Decides (nat_le a b) (a ≤ b)
le_decides a b = (leb-true a b, le-leb a b)

pub allows_decides : (greatest : Option ℕ) (idx : ℕ) → Decides (allows_idx greatest idx) (IsSomeAnd greatest (λ most. idx ≤ most))
allows_decides None idx = (λ is. absurd (false≢true is), λ never. absurd never)
allows_decides (Some most) idx = le_decides idx most
