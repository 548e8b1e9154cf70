-- What is stored after a prepared change is that of the changed stream.
use Rattle.std.proofs.Common.{◌≡◌, ◌⊎◌, ℕ, ◌+◌, ◌-◌, ◌^◌, ◌<◌, ◌≤◌, List, ◌++◌, length, take, drop, Contains, Option, None, Some, IfSome, refl, ap, sym, ◌∙◌, subst, arith, inl, inr}
use Rattle.std.specs.Prelude.{unwrap_or}
use Rattle.std.specs.Map.{keys_of}
use Rattle.std.proofs.lemmas.Bool.{cases_lt}
use Rattle.std.proofs.lemmas.List.{length-take-le, take-take}
use Rattle.std.proofs.lemmas.List.Elements.{All-weaker}
use Rattle.std.proofs.Math.Seq.{take-length}
use Rattle.unit_outcomes.specs.declared.outcome.Outcome.{Outcome}
use Rattle.request_core.specs.States.{FoldState, no_units}
use Rattle.request_core.specs.Fold.{outcomes_from, outcomes_of}
use Rattle.request_core.specs.Agreement.{Stream, state_from}
use Rattle.checkpoints.specs.declared.shifting.LengthChange.{LengthChange}
use Rattle.checkpoints.specs.Stored.{IsStoredAt}
use Rattle.checkpoints.specs.Changes.{CanShift, cut, shifted}
use Rattle.checkpoints.specs.Spacing.{HasNear}
use Rattle.checkpoints.proofs.Members.{Contains_cases, kept_from_cut}
use Rattle.stream_edits.specs.declared.changes.Change.{Change}
use Rattle.stream_fold.specs.declared.refold.Refold.{Refold}
use Rattle.stream_fold.specs.Streams.{state_past}
use Rattle.stream_edits.specs.Changes.{IsInside, at_of, rest_from, stream_after, units_of}
use Rattle.stream_fold.specs.Changes.{brought_to, length_change, place_after}
use Rattle.stream_fold.specs.Meeting.{AgreeAt}
use Rattle.stream_fold.specs.StoredStates.{IsFolded, IsPast, ArePast, AreNear, spacing}
use Rattle.stream_fold.specs.Storing.{IsThinned, stored_after}
use Rattle.stream_fold.specs.Refolding.{AreApart, IsNew, IsMadeAnew, end_of}
use Rattle.stream_fold.proofs.Changed.{moves, rest_inside, place_is, take_before, length_after, apart_after}
use Rattle.stream_fold.proofs.Folds.{agree_on, outcomes_split, outcomes_behind, outcomes_before}
use Rattle.stream_fold.proofs.Storage.{States, all_put, kept_cases, from_cut, has_low, has_high, has_put, has_made}
use Rattle.stream_fold.proofs.Anew.{stored_of, place_of_stored}
use Rattle.stream_fold.proofs.Thinned.{HasOrigin, IsSparseBut, crowded, keys_there, sparse_after}

-- the first place at which states stay stored
abbrev pub stays_of : Stream → Option ℕ → ℕ
stays_of stream met = unwrap_or met (length stream + 1)

-- places that are kept on both sides of a change can move by it
can_shift_by : (change : Change) (stays kept most : ℕ) (places : List ℕ) → most + length (units_of change) < 2 ^ 64
    → ((place : ℕ) → Contains places place → place ≤ most) → ((place : ℕ) → Contains places place → (place ≤ kept) ⊎ (stays ≤ place))
    → kept ≤ at_of change → at_of change ≤ rest_from change → rest_from change < stays → CanShift stays (length_change change) places
can_shift_by change stays kept most places short within sides low ordered behind = elim (moves (rest_from change) (brought_to change)) [
  | inl down ↦ rw down.1 (λ place other at-place at-other below past. elim (sides place at-place) [
    | inl le ↦ omega (arith, le, low, behind, past, down.0)
    | inr ge ↦ absurd (omega (arith, ge, below))
  ])
  | inr up ↦ rw up.1 (λ place there high. omega (arith, within place there, short, up.0, ordered))
]

module _ (change : Change) (stream : Stream) (states : States) (end : FoldState) (folded : IsFolded stream states end)
    (inside : IsInside change stream) (fold : Refold) where
  abbrev after : Stream
  after = stream_after change stream

  abbrev Met : Option ℕ → Type 0
  Met met = IfSome met (λ to. (rest_from change < to) × (to ≤ length stream) × IsStoredAt states to fold.state)

  -- where the fold ends, and where states stay
  record Bounds (met : Option ℕ) : Type 0 where
    behind : rest_from change ≤ end_of stream met
    within : end_of stream met ≤ length stream
    stays : rest_from change < stays_of stream met
    same : (place : ℕ) → stays_of stream met ≤ place → place ≤ length stream → end_of stream met ≤ place

  bounds_of : (met : Option ℕ) → Met met → Bounds met
  bounds_of None is = record {
    behind = rest_inside change stream inside;
    within = omega arith;
    stays = omega (arith, rest_inside change stream inside);
    same = λ place le most. omega (arith, le, most);
  }
  bounds_of (Some to) is = record {
    behind = omega (arith, is.0);
    within = is.1;
    stays = is.0;
    same = λ place le most. le;
  }

  -- where the fold ends, the folds agree, or the stream does
  agreed : (met : Option ℕ) → Met met → fold.state ≡ state_past after (place_after change (end_of stream met))
      → AgreeAt change stream (end_of stream met) ⊎ (end_of stream met ≡ length stream)
  agreed None is state_is = inr refl
  agreed (Some to) is state_is = inl (sym ((folded.past to fold.state is.2).is) ∙ state_is)

  -- behind it states stay only where they agree
  agreed_at : (met : Option ℕ) → Met met → fold.state ≡ state_past after (place_after change (end_of stream met))
      → (place : ℕ) → stays_of stream met ≤ place → place ≤ length stream → AgreeAt change stream place
  agreed_at None is state_is place le most = absurd (omega (arith, le, most))
  agreed_at (Some to) is state_is place le most =
      agree_on change stream inside to place (omega (arith, is.0)) le (sym ((folded.past to fold.state is.2).is) ∙ state_is)

  -- a state is stored where the fold ends, unless that is the end of the stream
  met_place : (met : Option ℕ) → Met met → (end_of stream met < length stream)
      → Contains (keys_of states) (end_of stream met) × (stays_of stream met ≡ end_of stream met)
  met_place None is less = absurd (omega (arith, less))
  met_place (Some to) is less = (place_of_stored states to fold.state is.2, refl)

  -- where a state stays behind it, it is stored there
  stays_there : (met : Option ℕ) → Met met → (place : ℕ) → stays_of stream met ≤ place → place ≤ length stream
      → Contains (keys_of states) (end_of stream met)
  stays_there None is place le most = absurd (omega (arith, le, most))
  stays_there (Some to) is place le most = place_of_stored states to fold.state is.2

  module _ (met : Option ℕ) (made : IsMadeAnew change stream states fold met) where
    abbrev to : ℕ
    to = end_of stream met

    abbrev stays : ℕ
    stays = stays_of stream met

    bounds : Bounds met
    bounds = bounds_of met made.met_at

    new_to : ℕ
    new_to = place_after change to

    abbrev new_states : States
    new_states = stored_after fold.kept stays (length_change change) fold.states.items states

    pub kept_low : fold.kept ≤ at_of change
    kept_low = omega (arith, made.kept_before, made.before)

    pub kept_before : fold.kept < stays
    kept_before = omega (arith, kept_low, inside.ordered, bounds.stays)

    cut_within : (place : ℕ) → Contains (keys_of (cut fold.kept stays states)) place → place ≤ length stream
    cut_within place there =
        let state = stored_of (cut fold.kept stays states) place there in
        let was = from_cut states fold.kept stays place state.0 state.1 in
        (folded.past place state.0 was.0).within

    -- the places that stay can move
    pub can_shift : length stream + length (units_of change) < 2 ^ 64 → CanShift stays (length_change change) (keys_of (cut fold.kept stays states))
    can_shift short =
        can_shift_by change stays fold.kept (length stream) (keys_of (cut fold.kept stays states)) short cut_within
        (kept_from_cut states fold.kept stays) kept_low inside.ordered bounds.stays

    to_within : place_after change to ≤ length after
    to_within = omega (arith, length_after change stream inside, apart_after change stream inside to (length stream) bounds.behind bounds.within)

    front_long : length (take (place_after change to) after) ≡ place_after change to
    front_long = length-take-le (place_after change to) after to_within

    -- the outcomes
    pub outcomes_are : outcomes_of after ≡ take fold.from (outcomes_of stream) ++ fold.outcomes.items ++ drop to (outcomes_of stream)
    outcomes_are =
        let front : Stream = take (place_after change to) after in
        let below : fold.from ≤ place_after change to = omega (arith, made.refolded.begun, front_long) in
        let begun = outcomes_before change stream inside fold.from (place_after change to) made.before below to_within in
        let rest = outcomes_behind change stream inside to bounds.behind (agreed met made.met_at made.refolded.state_is) in
        let done : outcomes_of front ≡ take fold.from (outcomes_of stream) ++ fold.outcomes.items =
        made.refolded.outcomes_are ∙ ap (λ (first : List Outcome). first ++ fold.outcomes.items) begun in
        outcomes_split after (place_after change to)
        ∙ (ap (λ (first : List Outcome). first ++ outcomes_from (state_past after (place_after change to)) (drop (place_after change to) after)) done
        ∙ ap (λ (last : List Outcome). (take fold.from (outcomes_of stream) ++ fold.outcomes.items) ++ last) rest)

    -- the states that are new
    new_past : (e : ℕ × FoldState) → IsNew (take (place_after change to) after) fold.kept e → IsPast after e.0 e.1
    new_past e is =
        let below : e.0 ≤ place_after change to = omega (arith, is.past.within, front_long) in
        record {
          within = omega (arith, below, to_within);
          is = is.past.is ∙ ap (λ (units : Stream). state_from no_units units) (take-take e.0 (place_after change to) after below);
        }

    -- those that are kept
    low_past : (place : ℕ) (state : FoldState) → IsStoredAt states place state → place ≤ fold.kept → IsPast after place state
    low_past place state is le =
        let low : place ≤ at_of change = omega (arith, le, kept_low) in
        let front : at_of change ≤ place_after change to = omega (arith, place_is change to bounds.behind) in
        record {
          within = omega (arith, low, front, to_within);
          is =
              (folded.past place state is).is
              ∙ ap (λ (units : Stream). state_from no_units units) (sym (take_before change stream inside place low));
        }

    -- and those that are moved
    high_past : (place : ℕ) (state : FoldState) → IsStoredAt states place state → stays ≤ place → IsPast after (place_after change place) state
    high_past place state is le =
        let past = folded.past place state is in
        let behind : rest_from change ≤ place = omega (arith, bounds.stays, le) in
        record {
          within = omega (arith, length_after change stream inside, apart_after change stream inside place (length stream) behind past.within);
          is = past.is ∙ agreed_at met made.met_at made.refolded.state_is place le past.within;
        }

    pub past_after : ArePast after new_states
    past_after =
        all_put (IsPast after) fold.states.items (shifted stays (length_change change) (cut fold.kept stays states))
        (All-weaker (IsNew (take (place_after change to) after) fold.kept) (λ (e : ℕ × FoldState). IsPast after e.0 e.1) new_past fold.states.items made.refolded.states_are)
        (kept_cases (IsPast after) states fold.kept stays (length_change change) kept_before low_past high_past)

    abbrev base : States
    base = shifted stays (length_change change) (cut fold.kept stays states)

    -- a place up to the one that is kept
    low_place : (place : ℕ) → place ≤ fold.kept → Contains (keys_of states) place → Contains (keys_of new_states) place
    low_place place le there =
        has_put fold.states.items base place (has_low states fold.kept stays (length_change change) place kept_before le there)

    high_place : (place : ℕ) → stays ≤ place → Contains (keys_of states) place → Contains (keys_of new_states) (place_after change place)
    high_place place le there =
        has_put fold.states.items base (place_after change place) (has_high states fold.kept stays (length_change change) place le there)

    kept_place : Contains (keys_of states) fold.kept
    kept_place = place_of_stored states fold.kept made.kept.0 made.kept.1

    near_low : (k : ℕ) → k < fold.kept → HasNear spacing (keys_of new_states) k
    near_low k below =
        let within = (folded.past fold.kept made.kept.0 made.kept.1).within in
        let near = folded.near k (omega (arith, below, within)) in
        (near.0, low_place near.0 (omega (arith, near.2, below)) near.1, near.2, near.3)

    near_made : (k : ℕ) → fold.kept ≤ k → k < place_after change to → HasNear spacing (keys_of new_states) k
    near_made k low below =
        let roomy : fold.since ≤ 32 = fold.near in
        let near = made.refolded.near k low (omega (arith, below, roomy, front_long)) in
        elim (Contains_cases fold.kept (keys_of fold.states.items) near.0 near.1) [
          | inl same ↦ (fold.kept, low_place fold.kept (omega arith) kept_place, omega (arith, near.2, same), omega (arith, near.3, same))
          | inr new ↦ (near.0, has_made fold.states.items base near.0 new, near.2, near.3)
        ]

    near_high : (k : ℕ) → place_after change to ≤ k → k < length after → HasNear spacing (keys_of new_states) k
    near_high k above below =
        let long : length after ≡ place_after change to + (length stream - to) =
        length_after change stream inside ∙ apart_after change stream inside to (length stream) bounds.behind bounds.within in
        let was : ℕ = to + (k - place_after change to) in
        let behind : to < length stream = omega (arith, long, above, below) in
        let inside_was : was < length stream = omega (arith, long, above, below) in
        let place_was : place_after change was ≡ k = omega (arith, apart_after change stream inside to was bounds.behind (omega arith), above) in
        let there = met_place met made.met_at behind in
        let near = folded.near was inside_was in
        elim (cases_lt near.0 to) [
          | inl before ↦ (
            place_after change to,
            high_place to (omega (arith, there.1)) there.0,
            above,
            omega (arith, near.3, before, above),
          )
          | inr past ↦
              let behind_it : rest_from change ≤ near.0 = omega (arith, past, bounds.behind) in
              let gap = apart_after change stream inside near.0 was behind_it near.2 in (
                place_after change near.0,
                high_place near.0 (omega (arith, there.1, past)) near.1,
                omega (arith, gap, place_was),
                omega (arith, gap, place_was, near.3, near.2),
              )
        ]

    pub near_after : AreNear after new_states
    near_after k within = elim (cases_lt k fold.kept) [
      | inl low ↦ near_low k low
      | inr past ↦ elim (cases_lt k (place_after change to)) [
        | inl between ↦ near_made k past between
        | inr high ↦ near_high k high within
      ]
    ]

    made_apart : AreApart fold.kept (keys_of fold.states.items) (place_after change to - fold.since)
    made_apart = made.refolded.apart (place_after change to - fold.since) (omega (arith, made.refolded.gap, front_long))

    -- where the places come from
    abbrev Origin : ℕ → Type 0
    Origin place =
        HasOrigin (keys_of states) (keys_of fold.states.items) fold.kept to (place_after change to) (place_after change to - fold.since)
        folded.sparse kept_place made_apart (omega arith) place

    moved_origin : (place : ℕ) (state : FoldState) → IsStoredAt states place state → stays ≤ place → Origin (place_after change place)
    moved_origin place state is le =
        let within = (folded.past place state is).within in
        let past = bounds.same place le within in
        inr (inr (
          place,
          place_of_stored states place state is,
          past,
          stays_there met made.met_at place le within,
          apart_after change stream inside to place bounds.behind past,
        ))

    origin : (place : ℕ) → Contains (keys_of new_states) place → Origin place
    origin place there =
        let state = stored_of new_states place there in
        all_put (λ place state. Origin place) fold.states.items base
        (All-weaker (λ (e : ℕ × FoldState). Contains (keys_of fold.states.items) e.0) (λ (e : ℕ × FoldState). Origin e.0)
        (λ e new. inr (inl new)) fold.states.items (keys_there fold.states.items))
        (kept_cases (λ place state. Origin place) states fold.kept stays (length_change change) kept_before
        (λ place state is le. inl (le, place_of_stored states place state is)) moved_origin)
        place state.0 state.1

    sparse_but : IsSparseBut fold.kept (place_after change to) new_states
    sparse_but first between last at-first at-between at-last =
        crowded (keys_of states) (keys_of fold.states.items) fold.kept to (place_after change to) (place_after change to - fold.since)
        folded.sparse kept_place made_apart (omega arith) first between last (origin first at-first) (origin between at-between)
        (origin last at-last)

    -- the end, where no stored state was met
    pub end_made : met ≡ None → fold.state ≡ state_from no_units after
    end_made is =
        let all : to ≡ length stream = ap (λ (met : Option ℕ). end_of stream met) is in
        let whole : place_after change to ≡ length after = ap (λ (n : ℕ). place_after change n) all ∙ sym (length_after change stream inside) in
        made.refolded.state_is
        ∙ ap (λ (units : Stream). state_from no_units units) (ap (λ (n : ℕ). take n after) whole ∙ take-length after)

    -- and where one was
    pub end_kept : (place : ℕ) → met ≡ Some place → end ≡ state_from no_units after
    end_kept place is =
        let met_there : Met (Some place) = subst Met is made.met_at in
        let state_is : fold.state ≡ state_past after (place_after change place) =
        subst (λ (met : Option ℕ). fold.state ≡ state_past after (place_after change (end_of stream met))) is made.refolded.state_is in
        let alike = agreed_at (Some place) met_there state_is (length stream) met_there.1 (omega arith) in
        folded.end_is
        ∙ (ap (λ (units : Stream). state_from no_units units) (sym (take-length stream))
        ∙ (alike
        ∙ ap (λ (units : Stream). state_from no_units units)
        (ap (λ (n : ℕ). take n after) (sym (length_after change stream inside)) ∙ take-length after)))

    pub from_to : fold.from ≤ to
    from_to = omega (arith, made.before, inside.ordered, bounds.behind)

    pub to_inside : to ≤ length stream
    to_inside = bounds.within

    pub stays_positive : 0 < stays
    stays_positive = omega (arith, bounds.stays)

    module _ (last : FoldState) (made_last : met ≡ None → last ≡ fold.state) (kept_last : (place : ℕ) → met ≡ Some place → last ≡ end) where
      last_is : (answer : Option ℕ) → met ≡ answer → last ≡ state_from no_units after
      last_is None is = made_last is ∙ end_made is
      last_is (Some place) is = kept_last place is ∙ end_kept place is

      -- all that is stored is that of the changed stream
      pub folded_after : (mid final : States) → IsThinned fold.kept new_states mid → IsThinned (place_after change to) mid final
          → IsFolded after final last
      folded_after mid final thinned again = record {
        past = λ place state is. past_after place state (thinned.only place state (again.only place state is));
        near = λ k within. again.near k (thinned.near k (near_after k within));
        sparse = sparse_after fold.kept (place_after change to) new_states mid final sparse_but thinned again;
        end_is = last_is met refl;
      }

      -- and so by other names
      pub folded_by : (units : Stream) (kept_states mid final : States) (stays_from : ℕ) (by : LengthChange) → units ≡ after
          → kept_states ≡ stored_after fold.kept stays_from by fold.states.items states → stays_from ≡ stays → by ≡ length_change change
          → IsThinned fold.kept kept_states mid → IsThinned fold.place mid final → IsFolded units final last
      folded_by units kept_states mid final stays_from by units_are states_are stays_is by_is thinned again =
          let same : kept_states ≡ new_states =
          states_are ∙ (ap (λ (from : ℕ). stored_after fold.kept from by fold.states.items states) stays_is
          ∙ ap (λ (b : LengthChange). stored_after fold.kept stays b fold.states.items states) by_is) in
          let at : fold.place ≡ place_after change to = made.refolded.place_is ∙ front_long in
          rw units_are
          (folded_after mid final (subst (λ (old : States). IsThinned fold.kept old mid) same thinned)
          (subst (λ (p : ℕ). IsThinned p mid final) at again))

    pub can_shift_as : (stays_from : ℕ) (by : LengthChange) → stays_from ≡ stays → by ≡ length_change change → length stream + length (units_of change) < 2 ^ 64
        → CanShift stays_from by (keys_of (cut fold.kept stays_from states))
    can_shift_as stays_from by stays_is by_is short = rw (stays_is, by_is) (can_shift short)
