-- A fold that goes on from a stored state.
use Rattle.std.proofs.Common.{◌≡◌, ℕ, ◌+◌, ◌-◌, ◌<◌, ◌≤◌, List, [], ◌∷◌, ◌++◌, length, take, Contains, refl, ap, sym, ◌∙◌, subst, arith, append_assoc, length-append, inl, inr}
use Rattle.std.proofs.Math.Seq.{take-length}
use Rattle.std.proofs.lemmas.Bool.{cases_lt}
use Rattle.std.proofs.lemmas.List.{append-nil, map-append, take-append-le, length-take-le}
use Rattle.std.proofs.lemmas.List.Elements.{All-nil, All-push, All-weaker, Contains-append_left, Contains-append_right}
use Rattle.std.specs.Map.{keys_of}
use Rattle.unit_outcomes.specs.declared.outcome.Outcome.{Outcome}
use Rattle.request_core.specs.States.{FoldState, no_units}
use Rattle.request_core.specs.Fold.{fold_step, outcomes_of}
use Rattle.request_core.specs.Agreement.{Stream, state_from}
use Rattle.request_core.proofs.Agreement.{outcomes_from-append, state_from-append}
use Rattle.checkpoints.specs.Spacing.{HasNear}
use Rattle.checkpoints.proofs.Shifts.{Contains_head}
use Rattle.stream_fold.specs.declared.refold.Refold.{Refold}
use Rattle.stream_fold.specs.Streams.{state_past}
use Rattle.stream_fold.specs.StoredStates.{spacing}
use Rattle.stream_fold.specs.Refolding.{AreApart, Begins, IsNew, IsRefolded, GoesOn}
use Rattle.stream_fold.proofs.Folds.{length-outcomes_from}

-- what is so far is the whole front
past_all : (front : Stream) → state_past front (length front) ≡ state_from no_units front
past_all front = ap (λ (units : Stream). state_from no_units units) (take-length front)

past_append : (front units : Stream) (place : ℕ) → place ≤ length front → state_past (front ++ units) place ≡ state_past front place
past_append front units place le = ap (λ (units : Stream). state_from no_units units) (take-append-le place front units le)

-- it begins past the front whose state it has
pub begins : (stream : Stream) (from kept : ℕ) (fold : Refold) → Begins from kept (state_past stream from) fold
    → kept ≤ from → from ≤ length stream → IsRefolded (take from stream) fold
begins stream from kept fold is le within =
    let long : length (take from stream) ≡ from = length-take-le from stream within in
    let same : fold.from ≡ length (outcomes_of (take from stream)) =
    is.from_is ∙ sym (length-outcomes_from no_units (take from stream) ∙ long) in
    let none : outcomes_of (take from stream) ≡ take fold.from (outcomes_of (take from stream)) ++ fold.outcomes.items =
    rw (is.no_outcomes, same, take-length (outcomes_of (take from stream))) (sym (append-nil (outcomes_of (take from stream)))) in
    record {
      place_is = is.place_is ∙ sym long;
      state_is = is.state_is;
      begun = omega (arith, is.from_is, long);
      outcomes_are = none;
      counted = omega (arith, is.from_is, is.no_steps, long);
      states_are = rw is.no_states (All-nil (IsNew (take from stream) fold.kept));
      gap = omega (arith, is.kept_is, is.since_is, long);
      apart = λ end ends. rw is.no_states (omega (arith, ends, is.since_is, is.kept_is, long));
      near = λ k low below. (fold.kept, Contains_head fold.kept (keys_of fold.states.items), low, omega (arith, is.kept_is, is.since_is, long, below));
    }

-- it goes on over no units
pub GoesOn-none : (fold : Refold) → GoesOn fold [] fold
GoesOn-none fold = record {
  from_is = refl;
  kept_is = refl;
  place_is = omega arith;
  refolded = λ front is. rw (append-nil front) is;
}

-- and over units after units
pub GoesOn-append : (old between new : Refold) (units others : Stream) → GoesOn old units between → GoesOn between others new
    → GoesOn old (units ++ others) new
GoesOn-append old between new units others first second = record {
  from_is = second.from_is ∙ first.from_is;
  kept_is = second.kept_is ∙ first.kept_is;
  place_is = omega (arith, first.place_is, second.place_is, length-append units others);
  refolded = λ front is.
      subst (λ (stream : Stream). IsRefolded stream new) (append_assoc front units others)
      (second.refolded (front ++ units) (first.refolded front is));
}

-- places that are apart, and one more
apart_push : (from : ℕ) (places : List ℕ) (end place : ℕ) → AreApart from places end → end + spacing ≤ place
    → AreApart from (places ++ place ∷ []) place
apart_push from [] end place are more = (omega (arith, are, more), omega arith)
apart_push from (first ∷ places) end place are more = (are.0, apart_push first places end place are.1 more)

-- one more place is near where it was
near_push : (kept : ℕ) (states : List (ℕ × FoldState)) (e : ℕ × FoldState) (k : ℕ) → HasNear spacing (kept ∷ keys_of states) k
    → HasNear spacing (kept ∷ keys_of (states ++ e ∷ [])) k
near_push kept states e k near = (
  near.0,
  subst (λ (places : List ℕ). Contains (kept ∷ places) near.0) (sym (map-append (λ (e : ℕ × FoldState). e.0) states (e ∷ [])))
      (Contains-append_left (kept ∷ keys_of states) (e.0 ∷ []) near.0 near.1),
  near.2,
  near.3,
)

near_new : (kept : ℕ) (states : List (ℕ × FoldState)) (e : ℕ × FoldState) (k : ℕ) → e.0 ≤ k → k < e.0 + spacing
    → HasNear spacing (kept ∷ keys_of (states ++ e ∷ [])) k
near_new kept states e k le below = (
  e.0,
  subst (λ (places : List ℕ). Contains (kept ∷ places) e.0) (sym (map-append (λ (e : ℕ × FoldState). e.0) states (e ∷ [])))
      (Contains-append_right (kept ∷ keys_of states) (e.0 ∷ []) e.0 (Contains_head e.0 [])),
  le,
  below,
)

-- a state more is set aside
module _ (old new : Refold) (from_is : new.from ≡ old.from) (kept_is : new.kept ≡ old.kept) (place_is : new.place ≡ old.place)
    (state_is : new.state ≡ old.state) (outcomes_are : new.outcomes.items ≡ old.outcomes.items) (steps_are : new.steps ≡ old.steps)
    (full : old.since ≡ 32) (empty : new.since ≡ 0) (states_are : new.states.items ≡ old.states.items ++ (old.place, old.state) ∷ []) where
  stored_refolded : (front : Stream) → IsRefolded front old → IsRefolded front new
  stored_refolded front is =
      let e : ℕ × FoldState = (old.place, old.state) in
      let added : IsNew front old.kept e = record {
        above = omega (arith, is.gap, full, is.place_is);
        past = record {
          within = omega (arith, is.place_is);
          is = is.state_is ∙ (sym (past_all front) ∙ ap (λ (n : ℕ). state_past front n) (sym is.place_is));
        };
      } in
      record {
        place_is = place_is ∙ is.place_is;
        state_is = state_is ∙ is.state_is;
        begun = omega (arith, from_is, is.begun);
        outcomes_are = rw (from_is, outcomes_are) is.outcomes_are;
        counted = omega (arith, from_is, steps_are, is.counted);
        states_are = rw (kept_is, states_are) (All-push (IsNew front old.kept) old.states.items e is.states_are added);
        gap = omega (arith, kept_is, empty, is.gap);
        apart = λ end ends.
            let places = keys_of old.states.items in
            let more : AreApart old.kept (places ++ old.place ∷ []) old.place =
            apart_push old.kept places (length front - spacing) old.place
            (is.apart (length front - spacing) (omega (arith, full, is.gap))) (omega (arith, full, is.gap, is.place_is)) in
            rw (kept_is, states_are, map-append (λ (e : ℕ × FoldState). e.0) old.states.items (e ∷ []))
            (subst (λ (n : ℕ). AreApart old.kept (places ++ old.place ∷ []) n) (omega (arith, ends, empty, is.place_is)) more);
        near = λ k low below. rw (kept_is, states_are) (elim (cases_lt k old.place) [
          | inl before ↦ near_push old.kept old.states.items e k (is.near k (omega (arith, low, kept_is)) (omega (arith, before, full, is.place_is)))
          | inr past ↦ near_new old.kept old.states.items e k past (omega (arith, below, empty, is.place_is))
        ]);
      }

  pub stored_goes_on : GoesOn old [] new
  stored_goes_on = record {
    from_is = from_is;
    kept_is = kept_is;
    place_is = omega (arith, place_is);
    refolded = λ front is. rw (append-nil front) (stored_refolded front is);
  }

-- a step is made
module _ (old new : Refold) (id : ℕ) (unit : List (List ℕ)) (from_is : new.from ≡ old.from) (kept_is : new.kept ≡ old.kept)
    (place_is : new.place ≡ old.place + 1) (since_is : new.since ≡ old.since + 1) (states_are : new.states.items ≡ old.states.items)
    (state_is : new.state ≡ (fold_step old.state id unit).0) (steps_are : new.steps ≡ old.steps + 1)
    (outcomes_are : new.outcomes.items ≡ old.outcomes.items ++ (fold_step old.state id unit).1 ∷ []) where
  abbrev more : Stream
  more = (id, unit) ∷ []

  outcomes_more : (front : Stream) → IsRefolded front old → outcomes_of (front ++ more) ≡ take new.from (outcomes_of (front ++ more)) ++ new.outcomes.items
  outcomes_more front is =
      let outcome : Outcome = (fold_step old.state id unit).1 in
      let short : old.from ≤ length (outcomes_of front) = omega (arith, is.begun, length-outcomes_from no_units front) in
      let whole : outcomes_of (front ++ more) ≡ outcomes_of front ++ outcome ∷ [] =
      outcomes_from-append no_units front more ∙ ap (λ (state : FoldState). outcomes_of front ++ (fold_step state id unit).1 ∷ []) (sym is.state_is) in
      let begun : take new.from (outcomes_of (front ++ more)) ≡ take old.from (outcomes_of front) =
      ap (λ (n : ℕ). take n (outcomes_of (front ++ more))) from_is
      ∙ (ap (λ (outcomes : List Outcome). take old.from outcomes) whole
      ∙ take-append-le old.from (outcomes_of front) (outcome ∷ []) short) in
      rw (begun, outcomes_are)
      (whole
      ∙ (ap (λ (outcomes : List Outcome). outcomes ++ outcome ∷ []) is.outcomes_are
      ∙ append_assoc (take old.from (outcomes_of front)) old.outcomes.items (outcome ∷ [])))

  still_new : (front : Stream) (e : ℕ × FoldState) → IsNew front old.kept e → IsNew (front ++ more) old.kept e
  still_new front e is = record {
    above = is.above;
    past = record {
      within = omega (arith, is.past.within, length-append front more);
      is = is.past.is ∙ sym (past_append front more e.0 is.past.within);
    };
  }

  stepped : (front : Stream) → IsRefolded front old → IsRefolded (front ++ more) new
  stepped front is =
      let long : length (front ++ more) ≡ length front + 1 = length-append front more in
      record {
        place_is = omega (arith, place_is, is.place_is, long);
        state_is =
            state_is
            ∙ (ap (λ (state : FoldState). (fold_step state id unit).0) is.state_is
            ∙ sym (state_from-append no_units front more));
        begun = omega (arith, from_is, is.begun, long);
        outcomes_are = outcomes_more front is;
        counted = omega (arith, from_is, steps_are, is.counted, long);
        states_are = rw (kept_is, states_are) (All-weaker (IsNew front old.kept) (IsNew (front ++ more) old.kept) (still_new front) old.states.items is.states_are);
        gap = omega (arith, kept_is, since_is, is.gap, long);
        apart = λ end ends. rw (kept_is, states_are) (is.apart end (omega (arith, ends, since_is, long)));
        near = λ k low below. rw (kept_is, states_are) (is.near k (omega (arith, low, kept_is)) (omega (arith, below, since_is, long)));
      }

  pub step_goes_on : GoesOn old more new
  step_goes_on = record {
    from_is = from_is;
    kept_is = kept_is;
    place_is = place_is;
    refolded = stepped;
  }
