-- Folds over fronts of streams, before and after a change.
use Rattle.std.proofs.Common.{◌≡◌, ◌⊎◌, ℕ, zero, suc, ◌-◌, ◌≤◌, List, [], ◌∷◌, ◌++◌, length, take, drop, refl, ap, sym, ◌∙◌, arith, inl, inr}
use Rattle.std.proofs.Math.Seq.{drop-length}
use Rattle.std.proofs.lemmas.List.{take-append-drop, take-take}
use Rattle.unit_outcomes.specs.declared.outcome.Outcome.{Outcome}
use Rattle.request_core.specs.States.{FoldState, no_units}
use Rattle.request_core.specs.Fold.{fold_step, outcomes_from, outcomes_of}
use Rattle.request_core.specs.Agreement.{Stream, state_from}
use Rattle.request_core.proofs.Agreement.{outcomes_from-append, state_from-append}
use Rattle.stream_edits.specs.declared.changes.Change.{Change}
use Rattle.stream_fold.specs.Streams.{state_past}
use Rattle.stream_edits.specs.Changes.{IsInside, at_of, rest_from, stream_after}
use Rattle.stream_fold.specs.Changes.{place_after}
use Rattle.stream_fold.specs.Meeting.{AgreeAt}
use Rattle.stream_fold.proofs.Fronts.{take_more_of}
use Rattle.stream_fold.proofs.Changed.{take_before, drop_behind, apart_after}

pub length-outcomes_from : (state : FoldState) (stream : Stream) → length (outcomes_from state stream) ≡ length stream
length-outcomes_from state [] = refl
length-outcomes_from state (unit ∷ units) =
    ap (λ (n : ℕ). suc n) (length-outcomes_from (fold_step state unit.0 unit.1).0 units)

pub take-outcomes_from : (state : FoldState) (place : ℕ) (stream : Stream)
    → take place (outcomes_from state stream) ≡ outcomes_from state (take place stream)
take-outcomes_from state zero stream = refl
take-outcomes_from state (suc place) [] = refl
take-outcomes_from state (suc place) (unit ∷ units) =
    ap (λ (rest : List Outcome). (fold_step state unit.0 unit.1).1 ∷ rest) (take-outcomes_from (fold_step state unit.0 unit.1).0 place units)

pub drop-outcomes_from : (state : FoldState) (place : ℕ) (stream : Stream)
    → drop place (outcomes_from state stream) ≡ outcomes_from (state_from state (take place stream)) (drop place stream)
drop-outcomes_from state zero stream = refl
drop-outcomes_from state (suc place) [] = refl
drop-outcomes_from state (suc place) (unit ∷ units) = drop-outcomes_from (fold_step state unit.0 unit.1).0 place units

-- a fold goes on past a place
pub state_past-more : (stream : Stream) (place other : ℕ) → place ≤ other
    → state_past stream other ≡ state_from (state_past stream place) (take (other - place) (drop place stream))
state_past-more stream place other le =
    ap (λ (units : Stream). state_from no_units units) (take_more_of place other stream le)
    ∙ state_from-append no_units (take place stream) (take (other - place) (drop place stream))

-- what becomes of a stream is what becomes of its front and of the rest
pub outcomes_split : (stream : Stream) (place : ℕ)
    → outcomes_of stream ≡ outcomes_of (take place stream) ++ outcomes_from (state_past stream place) (drop place stream)
outcomes_split stream place =
    ap (λ (units : Stream). outcomes_of units) (sym (take-append-drop place stream))
    ∙ outcomes_from-append no_units (take place stream) (drop place stream)

module _ (change : Change) (stream : Stream) (inside : IsInside change stream) where
  abbrev after : Stream
  after = stream_after change stream

  -- folds that agree behind the change go on so
  pub agree_on : (place other : ℕ) → rest_from change ≤ place → place ≤ other → AgreeAt change stream place → AgreeAt change stream other
  agree_on place other le more agree =
      let gap : place_after change other - place_after change place ≡ other - place = omega (arith, apart_after change stream inside place other le more) in
      let order : place_after change place ≤ place_after change other = omega (arith, apart_after change stream inside place other le more) in
      let units : Stream = take (other - place) (drop place stream) in
      state_past-more stream place other more
      ∙ (ap (λ (state : FoldState). state_from state units) agree
      ∙ sym (state_past-more after (place_after change place) (place_after change other) order
      ∙ (ap (λ (n : ℕ). state_from (state_past after (place_after change place)) (take n (drop (place_after change place) after))) gap
      ∙ ap (λ (rest : Stream). state_from (state_past after (place_after change place)) (take (other - place) rest))
      (drop_behind change stream inside place le))))

  -- the outcomes behind a place are the same, where the folds agree there or no unit is behind it
  pub outcomes_behind : (place : ℕ) → rest_from change ≤ place → AgreeAt change stream place ⊎ (place ≡ length stream)
      → outcomes_from (state_past after (place_after change place)) (drop (place_after change place) after) ≡ drop place (outcomes_of stream)
  outcomes_behind place le (inl agree) =
      ap (λ (rest : Stream). outcomes_from (state_past after (place_after change place)) rest) (drop_behind change stream inside place le)
      ∙ (ap (λ (state : FoldState). outcomes_from state (drop place stream)) (sym agree)
      ∙ sym (drop-outcomes_from no_units place stream))
  outcomes_behind place le (inr end) =
      let none : drop place stream ≡ [] = ap (λ (n : ℕ). drop n stream) end ∙ drop-length stream in
      ap (λ (rest : Stream). outcomes_from (state_past after (place_after change place)) rest) (drop_behind change stream inside place le ∙ none)
      ∙ (ap (λ (rest : Stream). outcomes_from (state_past stream place) rest) (sym none)
      ∙ sym (drop-outcomes_from no_units place stream))

  -- those in front of the change are the same
  pub outcomes_before : (place other : ℕ) → place ≤ at_of change → place ≤ other → other ≤ length after
      → take place (outcomes_of (take other after)) ≡ take place (outcomes_of stream)
  outcomes_before place other le more within =
      take-outcomes_from no_units place (take other after)
      ∙ (ap (λ (units : Stream). outcomes_of units) (take-take place other after more ∙ take_before change stream inside place le)
      ∙ sym (take-outcomes_from no_units place stream))
