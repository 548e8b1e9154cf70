-- What a change changes is folded anew: how it begins, where it ends, and how many steps it makes.
use Rattle.std.proofs.Common.{◌≡◌, ◌⊎◌, ℕ, ◌+◌, ◌-◌, ◌<◌, ◌≤◌, Bool, true, false, ◌++◌, length, take, drop, Contains, Option, None, Some, IfSome, Result, Ok, Err, IfOk, refl, ap, sym, ◌∙◌, subst, arith, inl, inr, append_assoc, length-take, length-drop, eqb}
use Rattle.std.specs.Prelude.{nat_eq, IsSome}
use Rattle.std.specs.Map.{keys_of, lookup}
use Rattle.std.specs.Cmp.{nat_eq_equiv}
use Rattle.std.proofs.Math.Seq.{take-length}
use Rattle.std.proofs.lemmas.List.{drop-drop}
use Rattle.std.proofs.lemmas.Bool.{cases_lt, eqb-true}
use Rattle.std.proofs.lemmas.Map.Views.{Contains-from_lookup, Contains-keys_from_lookup, IsSome-lookup_from_Contains}
use Rattle.request_core.specs.States.{FoldState, no_units}
use Rattle.request_core.specs.Agreement.{Stream, state_from}
use Rattle.checkpoints.specs.Stored.{IsStoredAt, IsBefore, IsLast}
use Rattle.checkpoints.proofs.Members.{of_each, le_last}
use Rattle.stream_edits.specs.declared.changes.Change.{Change}
use Rattle.stream_fold.specs.declared.refold.Refold.{Refold}
use Rattle.stream_fold.specs.Streams.{state_past}
use Rattle.stream_edits.specs.Changes.{IsInside, at_of, units_of, rest_from, stream_after}
use Rattle.stream_fold.specs.Changes.{place_after}
use Rattle.stream_fold.specs.Meeting.{AgreeAt, IsCounted, IsMeeting}
use Rattle.stream_fold.specs.StoredStates.{IsFolded, spacing}
use Rattle.stream_fold.specs.Refolding.{Begins, IsRefolded, GoesOn, IsStart, CatchesUp, HasCaughtUp, IsMadeAnew, end_of}
use Rattle.stream_fold.proofs.Fronts.{take_more_of}
use Rattle.stream_fold.proofs.Changed.{at_inside, rest_inside, take_behind}
use Rattle.stream_fold.proofs.Folds.{agree_on}
use Rattle.stream_fold.proofs.Going.{begins, GoesOn-none, GoesOn-append}
use Rattle.stream_fold.proofs.Storage.{States}

-- what holds of an answer holds of it in other words
pub if_ok : {A E : Type 0} (P Q : A → Type 0) (answer : Result A E) → ((x : A) → P x → Q x) → IfOk answer P → IfOk answer Q
if_ok P Q (Ok x) each holds = each x holds
if_ok P Q (Err fault) each holds = tt

pub not_both : (b : Bool) → b ≡ true → b ≡ false → ⊥
not_both b first second = cc

-- the state that is stored at a place
some_state : (found : Option FoldState) → IsSome found → (state : FoldState) × (found ≡ Some state)
some_state None is = absurd cc
some_state (Some state) is = (state, refl)

pub stored_of : (states : States) (place : ℕ) → Contains (keys_of states) place → (state : FoldState) × IsStoredAt states place state
stored_of states place there = some_state (lookup (nat_eq place) states) (IsSome-lookup_from_Contains nat_eq_equiv place states there)

pub place_of_stored : (states : States) (place : ℕ) (state : FoldState) → IsStoredAt states place state → Contains (keys_of states) place
place_of_stored states place state is = Contains-keys_from_lookup {eq = eqb} eqb-true place states (rw is refl)

module _ (stream : Stream) (states : States) (end : FoldState) (folded : IsFolded stream states end) where
  -- the last stored state is near the end
  pub last_near : (last : ℕ) (state : FoldState) → IsLast states last state → (last ≤ length stream) × (length stream ≤ last + spacing)
  last_near last state is = (
    (folded.past last state is.stored).within,
    elim (cases_lt 0 (length stream)) [
      | inl some ↦
          let near = folded.near (length stream - 1) (omega (arith, some)) in
          let le : near.0 ≤ last = le_last states last is.greatest near.0 near.1 in
          omega (arith, near.3, le, some)
      | inr none ↦ omega (arith, none)
    ],
  )

  -- and the one before a place is near it
  pub before_near : (at place : ℕ) (state : FoldState) → at < length stream → IsBefore states at place state → at < place + spacing
  before_near at place state inside is =
      let near = folded.near at inside in
      let there = stored_of states near.0 near.1 in
      let le : near.0 ≤ place =
      of_each (λ (e : ℕ × FoldState). e.0 ≤ at → e.0 ≤ place) states (near.0, there.0) is.greatest
      (Contains-from_lookup {eq = eqb} eqb-true near.0 there.0 states there.1) near.2 in
      omega (arith, near.3, le)

  -- a fold begins at the end
  pub starts_at_end : (at last : ℕ) (state : FoldState) (fold : Refold) → at ≡ length stream → IsLast states last state → Begins at last end fold
      → IsStart at stream states fold
  starts_at_end at last state fold is stored begun =
      let near = last_near last state stored in
      let whole : end ≡ state_past stream at =
      folded.end_is ∙ ap (λ (units : Stream). state_from no_units units) (sym (ap (λ (n : ℕ). take n stream) is ∙ take-length stream)) in
      let le : last ≤ at = omega (arith, near.0, is) in
      record {
        before = omega (arith, begun.from_is);
        close = omega (arith, begun.from_is);
        place_is = begun.place_is ∙ sym begun.from_is;
        kept_before = omega (arith, begun.from_is, begun.kept_is, le);
        kept = (state, subst (λ (n : ℕ). IsStoredAt states n state) (sym begun.kept_is) stored.stored);
        refolded =
            subst (λ (n : ℕ). IsRefolded (take n stream) fold) (sym begun.from_is)
            (begins stream at last fold (subst (λ (s : FoldState). Begins at last s fold) whole begun) le (omega (arith, is)));
      }

  -- or at a stored state
  pub starts_before : (at place : ℕ) (state : FoldState) (fold : Refold) → at < length stream → IsBefore states at place state
      → Begins place place state fold → IsStart at stream states fold
  starts_before at place state fold inside stored begun =
      let close : at < place + spacing = before_near at place state inside stored in
      let le : place ≤ at = stored.not_above in
      let past = folded.past place state stored.stored in
      record {
        before = omega (arith, begun.from_is, le);
        close = omega (arith, begun.from_is, close);
        place_is = begun.place_is ∙ sym begun.from_is;
        kept_before = omega (arith, begun.from_is, begun.kept_is);
        kept = (state, subst (λ (n : ℕ). IsStoredAt states n state) (sym begun.kept_is) stored.stored);
        refolded =
            subst (λ (n : ℕ). IsRefolded (take n stream) fold) (sym begun.from_is)
            (begins stream place place fold (subst (λ (s : FoldState). Begins place place s fold) past.is begun) (omega arith) past.within);
      }

  -- or where a fold has come, past the stored state before
  pub starts_where_resume_point : (at kept place : ℕ) (before state : FoldState) (fold : Refold) → at < length stream
      → IsBefore states at kept before → kept ≤ place → place ≤ at → state ≡ state_past stream place → Begins place kept state fold
      → IsStart at stream states fold
  starts_where_resume_point at kept place before state fold inside stored above below past begun =
      let close : at < kept + spacing = before_near at kept before inside stored in
      record {
        before = omega (arith, begun.from_is, below);
        close = omega (arith, begun.from_is, close, above);
        place_is = begun.place_is ∙ sym begun.from_is;
        kept_before = omega (arith, begun.from_is, begun.kept_is, above);
        kept = (before, subst (λ (n : ℕ). IsStoredAt states n before) (sym begun.kept_is) stored.stored);
        refolded =
            subst (λ (n : ℕ). IsRefolded (take n stream) fold) (sym begun.from_is)
            (begins stream place kept fold (subst (λ (s : FoldState). Begins place kept s fold) past begun) above (omega (arith, below, inside)));
      }

module _ (stream : Stream) (states : States) (from : ℕ) where
  -- the units from a place on, and one more
  one_more : (at : ℕ) → from ≤ at → at < length stream
      → take (at - from) (drop from stream) ++ take 1 (drop at stream) ≡ take (at + 1 - from) (drop from stream)
  one_more at le inside =
      let gap : at + 1 - from - (at - from) ≡ 1 = omega (arith, le) in
      let sum : from + (at - from) ≡ at = omega (arith, le) in
      sym (take_more_of (at - from) (at + 1 - from) (drop from stream) (omega (arith, le))
      ∙ (ap (λ (n : ℕ). take (at - from) (drop from stream) ++ take n (drop (at - from) (drop from stream))) gap
      ∙ (ap (λ (rest : Stream). take (at - from) (drop from stream) ++ take 1 rest) (drop-drop (at - from) from stream)
      ∙ ap (λ (n : ℕ). take (at - from) (drop from stream) ++ take 1 (drop n stream)) sum)))

  pub catches_none : (fold : Refold) → CatchesUp stream states from from fold fold
  catches_none fold =
      let gap : from - from ≡ 0 = omega arith in
      record {
        on = rw gap (GoesOn-none fold);
        none = λ front is place above below stored. absurd (omega (arith, above, below));
      }

  module _ (at : ℕ) (old between new : Refold) (le : from ≤ at) (inside : at < length stream)
      (so_far : CatchesUp stream states from at old between) (on : GoesOn between (take 1 (drop at stream)) new) where
    pub goes_one_more : GoesOn old (take (at + 1 - from) (drop from stream)) new
    goes_one_more =
        subst (λ (units : Stream). GoesOn old units new) (one_more at le inside)
        (GoesOn-append old between new (take (at - from) (drop from stream)) (take 1 (drop at stream)) so_far.on on)

    -- the state past one unit more is the fold's
    state_there : (front : Stream) → IsRefolded front old → new.state ≡ state_from no_units (front ++ take (at + 1 - from) (drop from stream))
    state_there front is = (goes_one_more.refolded front is).state_is

    -- it isn't the one that is stored there
    pub catches_more : (IsStoredAt states (at + 1) new.state → ⊥) → CatchesUp stream states from (at + 1) old new
    catches_more not = record {
      on = goes_one_more;
      none = λ front is place above below stored. elim (cases_lt at place) [
        | inl past ↦
            let here : place ≡ at + 1 = omega (arith, past, below) in
            let found = subst (λ (n : ℕ). IsStoredAt states n (state_from no_units (front ++ take (n - from) (drop from stream)))) here stored in
            not (subst (λ (state : FoldState). IsStoredAt states (at + 1) state) (sym (state_there front is)) found)
        | inr before ↦ so_far.none front is place above before stored
      ];
    }

    -- or it is
    pub caught_up : IsStoredAt states (at + 1) new.state → HasCaughtUp stream states from old (Some (at + 1)) new
    caught_up met = record {
      on = goes_one_more;
      met_at = (omega (arith, le), omega (arith, inside), met);
      not_before = λ front is place above below stored. so_far.none front is place above (omega (arith, below)) stored;
    }

  -- no state was met
  pub not_caught_up : (at : ℕ) (old new : Refold) → at ≡ length stream → CatchesUp stream states from at old new
      → HasCaughtUp stream states from old None new
  not_caught_up at old new is so_far = record {
    on = subst (λ (n : ℕ). GoesOn old (take (n - from) (drop from stream)) new) is so_far.on;
    met_at = tt;
    not_before = λ front was place above below stored. so_far.none front was place above (omega (arith, is, below)) stored;
  }

-- from its start over the units in front of a place, past which its state is then that of the stream
pub state_in_front : (stream : Stream) (states : States) (at : ℕ) (first second : Refold) → IsStart at stream states first
    → GoesOn first (take (at - first.from) (drop first.from stream)) second → second.state ≡ state_past stream at
state_in_front stream states at first second start on =
    (on.refolded (take first.from stream) start.refolded).state_is
    ∙ ap (λ (units : Stream). state_from no_units units) (sym (take_more_of first.from at stream start.before))

-- from its start over the unit that is changed and those behind it
module _ (change : Change) (stream : Stream) (states : States) (end : FoldState) (folded : IsFolded stream states end)
    (inside : IsInside change stream) (first second third fold : Refold) (met : Option ℕ)
    (start : IsStart (at_of change) stream states first)
    (before : GoesOn first (take (at_of change - first.from) (drop first.from stream)) second)
    (changed : GoesOn second (units_of change) third)
    (behind : HasCaughtUp stream states (rest_from change) third met fold) where
  abbrev front : Stream
  front = take (at_of change) stream ++ units_of change

  up_to_change : take first.from stream ++ take (at_of change - first.from) (drop first.from stream) ≡ take (at_of change) stream
  up_to_change = sym (take_more_of first.from (at_of change) stream start.before)

  front_refolded : IsRefolded front third
  front_refolded =
      changed.refolded (take (at_of change) stream)
      (subst (λ (units : Stream). IsRefolded units second) up_to_change (before.refolded (take first.from stream) start.refolded))

  -- it ends behind the change
  ends_behind : (met : Option ℕ) → IfSome met (λ to. (rest_from change < to) × (to ≤ length stream) × IsStoredAt states to fold.state)
      → (rest_from change ≤ end_of stream met) × (end_of stream met ≤ length stream)
  ends_behind None is = (rest_inside change stream inside, omega arith)
  ends_behind (Some to) is = (omega (arith, is.0), is.1)

  abbrev to : ℕ
  to = end_of stream met

  bounds : (rest_from change ≤ to) × (to ≤ length stream)
  bounds = ends_behind met behind.met_at

  -- the stream after the change, up to a place behind it
  up_to : (place : ℕ) → rest_from change ≤ place
      → front ++ take (place - rest_from change) (drop (rest_from change) stream) ≡ take (place_after change place) (stream_after change stream)
  up_to place le =
      append_assoc (take (at_of change) stream) (units_of change) (take (place - rest_from change) (drop (rest_from change) stream))
      ∙ sym (take_behind change stream inside place le)

  refolded : IsRefolded (take (place_after change to) (stream_after change stream)) fold
  refolded =
      subst (λ (units : Stream). IsRefolded units fold) (up_to to bounds.0) (behind.on.refolded front front_refolded)

  from_is : fold.from ≡ first.from
  from_is = behind.on.from_is ∙ (changed.from_is ∙ before.from_is)

  kept_is : fold.kept ≡ first.kept
  kept_is = behind.on.kept_is ∙ (changed.kept_is ∙ before.kept_is)

  -- how many steps it makes
  steps_are : fold.steps + first.from ≡ at_of change + length (units_of change) + (to - rest_from change)
  steps_are =
      omega (
        arith,
        refolded.counted,
        refolded.place_is,
        from_is,
        behind.on.place_is,
        changed.place_is,
        before.place_is,
        start.place_is,
        start.before,
        length-take (to - rest_from change) (drop (rest_from change) stream),
        length-drop (rest_from change) stream,
        bounds.0,
        bounds.1,
        length-take (at_of change - first.from) (drop first.from stream),
        length-drop first.from stream,
        at_inside change stream inside,
      )

  -- where the folds agree, the next stored state is met
  not_far : (count : ℕ) → rest_from change + count ≤ length stream → AgreeAt change stream (rest_from change + count)
      → to ≤ rest_from change + count + spacing
  not_far count within agree = elim (cases_lt (rest_from change + count + spacing) to) [
    | inr near ↦ near
    | inl far ↦
        let inside : rest_from change + count + spacing < length stream = omega (arith, far, bounds.1) in
        let near = folded.near (rest_from change + count + spacing) inside in
        let there = stored_of states near.0 near.1 in
        let above : rest_from change < near.0 = omega (arith, near.3) in
        let below : near.0 < to = omega (arith, near.2, far) in
        let behind_it : rest_from change ≤ near.0 = omega (arith, above) in
        let alike = agree_on change stream inside' (rest_from change + count) near.0 (omega arith) (omega (arith, near.3)) agree in
        let same : there.0 ≡ state_from no_units (front ++ take (near.0 - rest_from change) (drop (rest_from change) stream)) =
        (folded.past near.0 there.0 there.1).is
        ∙ (alike ∙ ap (λ (units : Stream). state_from no_units units) (sym (up_to near.0 behind_it))) in
        absurd (behind.not_before front front_refolded near.0 above below
        (subst (λ (state : FoldState). IsStoredAt states near.0 state) same there.1))
  ]
    where
      inside' : IsInside change stream
      inside' = inside

  few : (count : ℕ) → IsMeeting change stream count → fold.steps ≤ length (units_of change) + count + 63
  few count is = elim is.meet [
    | inl agree ↦
        let near : to ≤ rest_from change + count + spacing = not_far count is.inside agree in
        omega (arith, steps_are, near, start.close, start.before, bounds.0)
    | inr all ↦ omega (arith, steps_are, all, start.close, start.before, bounds.0, bounds.1)
  ]

  -- where it ends the folds agree, or it ends with the stream
  meets_at : (found : Option ℕ) → IfSome found (λ to. (rest_from change < to) × (to ≤ length stream) × IsStoredAt states to fold.state)
      → IsRefolded (take (place_after change (end_of stream found)) (stream_after change stream)) fold
      → AgreeAt change stream (end_of stream found) ⊎ (end_of stream found ≡ length stream)
  meets_at None is done = inr refl
  meets_at (Some to) is done = inl (sym (folded.past to fold.state is.2).is ∙ done.state_is)

  -- its steps are those of the units from where it begins up to there
  counted : IsCounted change stream fold.steps
  counted =
      let sum : to ≡ rest_from change + (to - rest_from change) = omega (arith, bounds.0) in
      record {
        front = at_of change - first.from;
        count = to - rest_from change;
        before = omega arith;
        close = omega (arith, start.close, start.before);
        meets = record {
          inside = omega (arith, bounds.0, bounds.1);
          meet =
              subst (λ (n : ℕ). AgreeAt change stream n ⊎ (n ≡ length stream)) sum (meets_at met behind.met_at refolded);
        };
        exact = omega (arith, steps_are, start.before);
      }

  pub made_anew : IsMadeAnew change stream states fold met
  made_anew = record {
    before = omega (arith, from_is, start.before);
    kept_before = omega (arith, from_is, kept_is, start.kept_before);
    kept = (start.kept.0, subst (λ (n : ℕ). IsStoredAt states n start.kept.0) (sym kept_is) start.kept.1);
    refolded = refolded;
    met_at = behind.met_at;
    few = few;
    counted = counted;
  }
