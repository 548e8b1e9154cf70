-- Frames that are equal by `==` are the same.
use Rattle.std.proofs.Common.{eqb, ◌≡◌, Bool, true, ap, sym, List, Option, None, Some, ◌∙◌, Decides, ℕ, rules}
use Rattle.std.proofs.lemmas.Bool.Decides.{Decides-and, Decides-eqb, Decides-like}
use Rattle.std.specs.Option.{option_eq}
use Rattle.h264_types.specs.MarkedFrames.{Marked}
use Rattle.h264_types.specs.declared.pictures.frames.Frame.{Frame}
use Rattle.h264_types.specs.declared.pictures.frames.Term.{Term}
use Rattle.h264_types.specs.declared.pictures.frames.Term.TheVariants.{ShortTerm, LongTerm}
use Rattle.h264_types.specs.contracts.pictures.frames.FramePartialEq.TheImpl as frames
use Rattle.h264_types.specs.contracts.pictures.frames.TermPartialEq.TheImpl as terms
use Rattle.h264_types.specs.contracts.pictures.counts.CountsPartialEq.TheImpl as counts
use Rattle.h264_types.specs.declared.pictures.counts.Counts.{Counts}

pub term_same : (a b : Term) → Decides (terms.eq-value.it a b) (a ≡ b)
term_same ShortTerm ShortTerm = search rules
term_same ShortTerm (LongTerm i) = search rules
term_same (LongTerm i) ShortTerm = search rules
term_same (LongTerm i) (LongTerm j) = search rules

counts_same : (a b : Counts) → Decides (counts.eq-value.it a b) (a ≡ b)
counts_same a b = search rules

one_frame : (a b : Frame) → a.id ≡ b.id → a.frame_num ≡ b.frame_num → a.term ≡ b.term → a.counts ≡ b.counts → a ≡ b
one_frame a b i n t c =
    let made : ℕ → ℕ → Term → Counts → Frame = λ i n t c. record { id = i; frame_num = n; term = t; counts = c } in
    ap (λ x. made x a.frame_num a.term a.counts) i ∙ (ap (λ x. made b.id x a.term a.counts) n ∙ (ap (λ x. made b.id b.frame_num x a.counts) t ∙ ap (made b.id b.frame_num b.term) c))

index_same : (a b : Option ℕ) → Decides (option_eq eqb a b) (a ≡ b)
index_same None None = search rules
index_same None (Some y) = search rules
index_same (Some x) None = search rules
index_same (Some x) (Some y) = search rules

-- equal parts make one set
pub marked_same : (a b : Marked) (frames indices : Bool) → Decides frames (a.frames ≡ b.frames) → indices ≡ true → indices ≡ option_eq eqb a.max_long_term_frame_idx b.max_long_term_frame_idx → Decides frames (a ≡ b)
marked_same a b frames indices same alike is =
    let made : List Frame → Option ℕ → Marked = λ f i. record { frames = f; max_long_term_frame_idx = i } in
    (λ t. ap (λ f. made f a.max_long_term_frame_idx) (same.0 t) ∙ ap (made b.frames) ((index_same a.max_long_term_frame_idx b.max_long_term_frame_idx).0 (sym is ∙ alike)), λ e. same.1 (ap (λ (m : Marked). m.frames) e))

pub frame_same : (a b : Frame) → Decides (frames.eq-value.it a b) (a ≡ b)
frame_same a b =
    let parts = Decides-and _ _ (Decides-eqb a.id b.id) (Decides-and _ _ (Decides-eqb a.frame_num b.frame_num) (Decides-and _ _ (term_same a.term b.term) (counts_same a.counts b.counts))) in
    Decides-like (frames.eq-value.it a b) (λ same. one_frame a b same.0 same.1.0 same.1.1.0 same.1.1.1) (λ (e : a ≡ b). (ap (λ (f : Frame). f.id) e, (ap (λ (f : Frame). f.frame_num) e, (ap (λ (f : Frame). f.term) e, ap (λ (f : Frame). f.counts) e)))) parts
