-- Steps that have one outcome for each set: that of a function.
use Rattle.std.proofs.Common.{◌≡◌, inl, inr, Bool, Option, Some, None, Result, Ok, Err, refl, sym, ◌∙◌, ap, subst}
use Rattle.h264_types.specs.Chains.{◌>>=◌}
use Rattle.slice_decoding.specs.declared.ref_marking.fault.MarkFault.{MarkFault}
use Rattle.h264_types.specs.declared.pictures.frames.Frame.{Frame}
use Rattle.h264_types.specs.MarkedFrames.{Marked}
use Rattle.slice_decoding.specs.Steps.{Step, Then, Stays, Place, Frees}
use Rattle.slice_decoding.specs.MarksAfter.{first, freed}
use Rattle.slice_decoding.proofs.Firsts.{Agrees, first_some, first_none, first_only, none_only}

-- the step has the outcome of the function, and no other
pub record Gives (IsStep : Step) (before : Marked) (outcome : Result Marked MarkFault) : Type 0 where
  pub holds : IsStep before outcome
  pub only : (result : Result Marked MarkFault) → IsStep before result → result ≡ outcome

-- a step that has this outcome
pub outcome_holds : (IsStep : Step) (before : Marked) (outcome result : Result Marked MarkFault) → Gives IsStep before outcome → result ≡ outcome → IsStep before result
outcome_holds IsStep before outcome result gives is = subst (IsStep before) (sym is) gives.holds

pub stays_gives : (before : Marked) → Gives Stays before (Ok before)
stays_gives before = record { holds = refl; only = λ result is. is }

-- one step after the other
pub then_gives : (First Second : Step) (before : Marked) (one : Result Marked MarkFault) (two : Marked → Result Marked MarkFault)
    → Gives First before one → ((between : Marked) → Gives Second between (two between)) → Gives (Then First Second) before (one >>= two)
then_gives First Second before (Ok middle) two first second = record {
  holds = inl (middle, first.holds, (second middle).holds);
  only = λ result h. elim h [
    | inl ok ↦ let same : ok.0 ≡ middle = (let is = first.only (Ok ok.0) ok.1 in cc) in (second ok.0).only result ok.2 ∙ ap two same
    | inr err ↦ (let is = first.only (Err err.0) err.1 in cc)
  ];
}
then_gives First Second before (Err fault) two first second = record {
  holds = inr (fault, first.holds, refl);
  only = λ result h. elim h [
    | inl ok ↦ (let is = first.only (Ok ok.0) ok.1 in cc)
    | inr err ↦ err.2 ∙ first.only (Err err.0) err.1
  ];
}

freed_holds : (passes : Frame → Bool) (IsSo : Frame → Type 0) (fault : MarkFault) (marked : Marked) → Agrees passes IsSo marked.frames
    → (found : Option Place) → first passes marked.frames ≡ found → Frees IsSo fault marked (freed fault marked found)
freed_holds passes IsSo fault marked agrees None is = (refl, first_none passes IsSo marked.frames agrees is)
freed_holds passes IsSo fault marked agrees (Some place) is = (place, first_some passes IsSo marked.frames place agrees is, refl)

freed_only : (passes : Frame → Bool) (IsSo : Frame → Type 0) (fault : MarkFault) (marked : Marked) → Agrees passes IsSo marked.frames
    → (result : Result Marked MarkFault) → Frees IsSo fault marked result → result ≡ freed fault marked (first passes marked.frames)
freed_only passes IsSo fault marked agrees (Ok after) h =
    ap (λ (m : Marked). Ok m) h.2 ∙ ap (freed fault marked) (sym (first_only passes IsSo marked.frames h.0 agrees h.1))
freed_only passes IsSo fault marked agrees (Err error) h =
    ap (λ (e : MarkFault). Err e) h.0 ∙ ap (freed fault marked) (sym (none_only passes IsSo marked.frames agrees h.1))

-- freeing the first frame that is so
pub frees_gives : (passes : Frame → Bool) (IsSo : Frame → Type 0) (fault : MarkFault) (marked : Marked) → Agrees passes IsSo marked.frames
    → Gives (Frees IsSo fault) marked (freed fault marked (first passes marked.frames))
frees_gives passes IsSo fault marked agrees = record {
  holds = freed_holds passes IsSo fault marked agrees (first passes marked.frames) refl;
  only = freed_only passes IsSo fault marked agrees;
}
