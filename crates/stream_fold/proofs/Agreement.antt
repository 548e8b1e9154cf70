-- Folds that agree go on alike.
use Rattle.std.proofs.Common.{◌≡◌, ℕ, List, [], ◌∷◌, ◌++◌, map, Option, refl, ap, sym, ◌∙◌}
use Rattle.std.specs.List.{zip}
use Rattle.unit_outcomes.specs.declared.outcome.Outcome.{Outcome}
use Rattle.request_core.specs.States.{FoldState, no_units}
use Rattle.request_core.specs.Fold.{fold_step, outcomes_from, outcomes_of}
use Rattle.request_core.specs.Agreement.{Stream, state_from}
use Rattle.request_core.proofs.Agreement.{outcomes_from-append, state_from-append}
use Rattle.decode_jobs.specs.Keys.{Key}
use Rattle.picture_keys.specs.Known.{Known, key_of_outcome, known_with, known_after, keys_after, keys_of}
use Rattle.stream_fold.specs.Agreement.{becoming, marked_keys, marked_keys_of, Agree, GoOnAlike}
use Rattle.stream_fold.proofs.AlikeKeys.{AreAlike, alike_from_keys, keys_from_alike}
use Rattle.stream_fold.proofs.AlikeSteps.{step_stays}

-- the ids of the units after a state, with the outcome of each
abbrev pub becoming_from : FoldState → Stream → List (ℕ × Outcome)
becoming_from state units = zip (map (λ unit. unit.0) units) (outcomes_from state units)

pub becoming_from-append : (state : FoldState) (units others : Stream)
    → becoming_from state (units ++ others) ≡ becoming_from state units ++ becoming_from (state_from state units) others
becoming_from-append state [] others = refl
becoming_from-append state (unit ∷ units) others =
    let step = fold_step state unit.0 unit.1 in
    ap (λ (rest : List (ℕ × Outcome)). (unit.0, step.1) ∷ rest) (becoming_from-append step.0 units others)

pub known_after-append : (known : Known) (units others : List (ℕ × Outcome))
    → known_after known (units ++ others) ≡ known_after (known_after known units) others
known_after-append known [] others = refl
known_after-append known (unit ∷ units) others = known_after-append (known_with known unit.0 (key_of_outcome known unit.1)) units others

pub keys_after-append : (known : Known) (units others : List (ℕ × Outcome))
    → keys_after known (units ++ others) ≡ keys_after known units ++ keys_after (known_after known units) others
keys_after-append known [] others = refl
keys_after-append known (unit ∷ units) others =
    ap (λ (keys : List (Option Key)). key_of_outcome known unit.1 ∷ keys)
    (keys_after-append (known_with known unit.0 (key_of_outcome known unit.1)) units others)

-- after units from one state: the keys, and those of the frames that are marked then
pub record IsAlikeOver (known other : Known) (state : FoldState) (units : Stream) : Type 0 where
  pub keys : keys_after known (becoming_from state units) ≡ keys_after other (becoming_from state units)
  pub frames : AreAlike (known_after known (becoming_from state units)) (known_after other (becoming_from state units)) (state_from state units).marks.frames

pub alike_over : (known other : Known) (state : FoldState) (units : Stream) → AreAlike known other state.marks.frames → IsAlikeOver known other state units
alike_over known other state [] all = record { keys = refl; frames = all }
alike_over known other state (unit ∷ units) all =
    let step = fold_step state unit.0 unit.1 in
    let stays = step_stays known other state unit.0 unit.1 all in
    let one = known_with known unit.0 (key_of_outcome known step.1) in
    let two = known_with other unit.0 (key_of_outcome other step.1) in
    let rest = alike_over one two step.0 units stays.frames in
    record {
      keys =
          ap (λ (key : Option Key). key ∷ keys_after one (becoming_from step.0 units)) stays.key
          ∙ ap (λ (keys : List (Option Key)). key_of_outcome other step.1 ∷ keys) rest.keys;
      frames = rest.frames;
    }

module _ (first second further : Stream) (agree : Agree first second) where
  abbrev state : FoldState
  state = state_from no_units first

  abbrev known_first : Known
  known_first = known_after [] (becoming first)

  abbrev known_second : Known
  known_second = known_after [] (becoming second)

  same_keys : marked_keys known_first state ≡ marked_keys known_second state
  same_keys = agree.keys ∙ ap (λ state. marked_keys known_second state) (sym agree.states)

  over : IsAlikeOver known_first known_second state further
  over = alike_over known_first known_second state further (alike_from_keys known_first known_second state.marks.frames same_keys)

  becoming_first : becoming (first ++ further) ≡ becoming first ++ becoming_from state further
  becoming_first = becoming_from-append no_units first further

  becoming_second : becoming (second ++ further) ≡ becoming second ++ becoming_from state further
  becoming_second =
      becoming_from-append no_units second further
      ∙ ap (λ state. becoming second ++ becoming_from state further) (sym agree.states)

  known_then : (stream : Stream) → becoming (stream ++ further) ≡ becoming stream ++ becoming_from state further
      → known_after [] (becoming (stream ++ further)) ≡ known_after (known_after [] (becoming stream)) (becoming_from state further)
  known_then stream is =
      ap (λ units. known_after [] units) is ∙ known_after-append [] (becoming stream) (becoming_from state further)

  keys_then : (stream : Stream) → becoming (stream ++ further) ≡ becoming stream ++ becoming_from state further
      → keys_of (becoming (stream ++ further))
      ≡ keys_of (becoming stream) ++ keys_after (known_after [] (becoming stream)) (becoming_from state further)
  keys_then stream is =
      ap (λ units. keys_of units) is ∙ keys_after-append [] (becoming stream) (becoming_from state further)

  states_then : state_from no_units (first ++ further) ≡ state_from no_units (second ++ further)
  states_then =
      state_from-append no_units first further
      ∙ (ap (λ state. state_from state further) agree.states ∙ sym (state_from-append no_units second further))

  marked_then : marked_keys_of (first ++ further) ≡ marked_keys_of (second ++ further)
  marked_then =
      let end : FoldState = state_from state further in
      let one = known_after known_first (becoming_from state further) in
      let two = known_after known_second (becoming_from state further) in
      let same : marked_keys one end ≡ marked_keys two end = keys_from_alike one two end.marks.frames over.frames in
      ap (λ known. marked_keys known (state_from no_units (first ++ further))) (known_then first becoming_first)
      ∙ (ap (λ state. marked_keys one state) (state_from-append no_units first further)
      ∙ (same
      ∙ (ap (λ state. marked_keys two state) (sym (state_from-append no_units first further) ∙ states_then)
      ∙ ap (λ known. marked_keys known (state_from no_units (second ++ further))) (sym (known_then second becoming_second)))))

  pub go_on_alike : GoOnAlike first second further
  go_on_alike = record {
    outcomes = outcomes_from state further;
    keys = keys_after known_first (becoming_from state further);
    first_outcomes = outcomes_from-append no_units first further;
    second_outcomes =
        outcomes_from-append no_units second further
        ∙ ap (λ state. outcomes_of second ++ outcomes_from state further) (sym agree.states);
    first_keys = keys_then first becoming_first;
    second_keys =
        keys_then second becoming_second
        ∙ ap (λ (keys : List (Option Key)). keys_of (becoming second) ++ keys) (sym over.keys);
    agree = record { states = states_then; keys = marked_then };
  }
