-- Where a front and a rest that two streams have in common lie, and that a group's steps are few
-- for all of them.
use Rattle.std.proofs.Common.{◌≡◌, ◌⊎◌, ℕ, ◌+◌, ◌-◌, ◌<◌, ◌≤◌, true, cond, List, [], ◌++◌, length, take, drop, get_or, ap, sym, ◌∙◌, subst, arith, inl, inr, eqb}
use Rattle.std.specs.Prelude.{count_by}
use Rattle.std.proofs.lemmas.Bool.{cases_lt}
use Rattle.std.proofs.lemmas.List.{take-append-drop, take-take, get_or-take, get_or-drop}
use Rattle.std.proofs.lemmas.List.Sums.{count_by_more_yes, sum_by-take-le}
use Rattle.stream_edits.specs.declared.changes.Change.{Change}
use Rattle.stream_edits.specs.Changes.{IsInside, at_of, rest_from, units_of, stream_after}
use Rattle.stream_edits.specs.Common.{IsFront, IsRest, IsLongestFront, IsLongestRest}
use Rattle.stream_edits.specs.Ids.{units_with}
use Rattle.stream_edits.specs.Streams.{Stream, has_id}
use Rattle.stream_edits.proofs.Fronts.{front_less, front_whole}
use Rattle.stream_fold.specs.Changes.{place_after}
use Rattle.stream_fold.specs.Meeting.{IsCounted, IsMeeting}
use Rattle.stream_fold.specs.Streams.{state_past}
use Rattle.stream_fold.proofs.Changed.{length_after, place_is}
use Rattle.stream_session.specs.Grouping.{AreCounted, AreFewForAll}
use Rattle.stream_session.specs.MeetingPoints.{IsMeetingPoint}
use Rattle.stream_session.specs.Moves.{MakesFew}

abbrev Once : Stream → Type 0
Once stream = (id : ℕ) → units_with stream id ≤ 1

eqb-same : (n : ℕ) → eqb n n ≡ true
eqb-same n = grind arith

-- a unit that stands twice
twice : (stream : Stream) (i j : ℕ) (d : ℕ × List (List ℕ)) → i < j → j < length stream → get_or stream i d ≡ get_or stream j d
    → 2 ≤ units_with stream (get_or stream i d).0
twice stream i j d less within same =
    let id : ℕ = (get_or stream i d).0 in
    let first : count_by (has_id id) (take (i + 1) stream) ≡ count_by (has_id id) (take i stream) + 1 =
    count_by_more_yes (has_id id) stream i d (omega (arith, less, within)) (eqb-same id) in
    let here : has_id id (get_or stream j d) ≡ true =
    ap (λ (unit : ℕ × List (List ℕ)). has_id id unit) (sym same) ∙ eqb-same id in
    let second : count_by (has_id id) (take (j + 1) stream) ≡ count_by (has_id id) (take j stream) + 1 =
    count_by_more_yes (has_id id) stream j d within here in
    let between : count_by (has_id id) (take (i + 1) stream) ≤ count_by (has_id id) (take j stream) =
    subst (λ units. count_by (has_id id) units ≤ count_by (has_id id) (take j stream)) (take-take (i + 1) j stream (omega (arith, less)))
    (sum_by-take-le (λ unit. cond (has_id id unit) 1 0) (take j stream) (i + 1)) in
    let whole : count_by (has_id id) (take (j + 1) stream) ≤ count_by (has_id id) stream =
    sum_by-take-le (λ unit. cond (has_id id unit) 1 0) stream (j + 1) in
    omega (arith, first, second, between, whole)

-- the other way round
front_back : (old new : Stream) (front : ℕ) → IsFront old new front → IsFront new old front
front_back old new front is = record { in_old = is.in_new; in_new = is.in_old; same = sym is.same }

rest_back : (old new : Stream) (rest : ℕ) → IsRest old new rest → IsRest new old rest
rest_back old new rest is = record { in_old = is.in_new; in_new = is.in_old; same = sym is.same }

module _ (old new : Stream) (front rest : ℕ) (in_front : IsFront old new front) (at_end : IsRest old new rest) where
  -- the rest of the longer stream lies behind the front in the shorter one, where ids differ
  behind_longer : Once new → length old < length new → front + rest ≤ length old
  behind_longer once longer = elim (cases_lt (length old) (front + rest)) [
    | inl over ↦
        let d : ℕ × List (List ℕ) = (0, []) in
        let p : ℕ = length old - rest in
        let q : ℕ = length new - rest in
        let within : p < front = omega (arith, over, in_front.in_old, at_end.in_old) in
        let less : p < q = omega (arith, longer, at_end.in_old) in
        let inside : q < length new = omega (arith, over, in_front.in_old, at_end.in_new) in
        let fronts : get_or old p d ≡ get_or new p d =
        sym (get_or-take front old p d within)
        ∙ (ap (λ (units : Stream). get_or units p d) in_front.same ∙ get_or-take front new p d within) in
        let rests : get_or old p d ≡ get_or new q d =
        ap (λ (n : ℕ). get_or old n d) (omega arith) ∙ (sym (get_or-drop p old 0 d)
        ∙ (ap (λ (units : Stream). get_or units 0 d) at_end.same ∙ (get_or-drop q new 0 d ∙ ap (λ (n : ℕ). get_or new n d) (omega arith)))) in
        let two = twice new p q d less inside (sym fronts ∙ rests) in
        let one = once (get_or new p d).0 in
        absurd (omega (arith, two, one))
    | inr le ↦ le
  ]

  -- streams of one length that overlap so are the same
  same_streams : length old ≡ length new → length old < front + rest → old ≡ new
  same_streams equal over =
      let p : ℕ = length old - rest in
      let q_is : length new - rest ≡ p = omega (arith, equal) in
      let fronts = (front_less old new front p in_front (omega (arith, over))).same in
      let rests : drop p old ≡ drop p new = at_end.same ∙ ap (λ (n : ℕ). drop n new) q_is in
      sym (take-append-drop p old)
      ∙ (ap (λ (units : Stream). units ++ drop p old) fronts
      ∙ (ap (λ (units : Stream). take p new ++ units) rests ∙ take-append-drop p new))

module _ (change : Change) (old : Stream) (steps : ℕ) (inside : IsInside change old) (few : MakesFew change old steps) where
  abbrev new : Stream
  new = stream_after change old

  new_is : length new ≡ at_of change + length (units_of change) + (length old - rest_from change)
  new_is = length_after change old inside ∙ place_is change (length old) inside.within

  module _ (front rest count : ℕ) (before : front ≤ at_of change) (point : IsMeetingPoint old new front rest count) where
    -- a rest that begins within the change's
    few_behind : rest ≤ length old - rest_from change → steps ≤ length new - (front + rest) + count + 64
    few_behind within =
        let behind : ℕ = length old - rest_from change - rest + count in
        let place : ℕ = rest_from change + behind in
        let old_place : length old - rest + count ≡ place = omega (arith, inside.within, within) in
        let new_place : length new - rest + count ≡ place_after change place =
        omega (arith, new_is, place_is change place (omega arith), inside.within, within) in
        let meeting : IsMeeting change old behind = record {
          inside = omega (arith, inside.within, within, point.inside);
          meet = elim point.meet [
            | inl agree ↦
                inl (ap (λ (n : ℕ). state_past old n) (sym old_place) ∙ (agree ∙ ap (λ (n : ℕ). state_past new n) new_place))
            | inr all ↦ inr (omega (arith, inside.within, within, all))
          ];
        } in
        let taken = few behind meeting in
        omega (arith, taken, new_is, before, within, inside.within)

  -- where nothing is changed
  few_none : length old ≤ at_of change → (limit : ℕ) → 64 ≤ limit → length new ≡ length old → steps ≤ limit
  few_none all limit le same =
      let meeting : IsMeeting change old 0 = record {
        inside = omega (arith, inside.within);
        meet = inr (omega (arith, all, inside.ordered, inside.within));
      } in
      let taken = few 0 meeting in
      omega (arith, taken, new_is, all, inside.ordered, inside.within, le, same)

  -- and the steps that are counted are those of the change
  pub counted_among : IsLongestFront old new (at_of change) → IsLongestRest (at_of change) old new (length old - rest_from change)
      → IsCounted change old steps → AreCounted old new steps
  counted_among longest_front longest_rest counted =
      let rest : ℕ = length old - rest_from change in
      let place : ℕ = rest_from change + counted.count in
      let old_place : length old - rest + counted.count ≡ place = omega (arith, inside.within) in
      let new_place : length new - rest + counted.count ≡ place_after change place =
      omega (arith, new_is, place_is change place (omega arith), inside.within) in
      record {
        front = at_of change;
        rest = rest;
        longest_front = longest_front;
        longest_rest = longest_rest;
        ahead = counted.front;
        count = counted.count;
        before = counted.before;
        close = counted.close;
        meets = record {
          in_front = longest_front.is;
          at_end = longest_rest.is;
          behind_old = longest_rest.behind_old;
          behind_new = longest_rest.behind_new;
          inside = omega (arith, counted.meets.inside);
          meet = elim counted.meets.meet [
            | inl agree ↦
                inl (ap (λ (n : ℕ). state_past old n) old_place ∙ (agree ∙ ap (λ (n : ℕ). state_past new n) (sym new_place)))
            | inr all ↦ inr (omega (arith, all))
          ];
        };
        exact = omega (arith, counted.exact, new_is, inside.within);
      }

  module _ (longest_front : IsLongestFront old new (at_of change))
      (longest_rest : IsLongestRest (at_of change) old new (length old - rest_from change))
      (once_old : Once old) (once_new : Once new) where
    -- a rest is within the change's, or nothing is changed
    within_or_none : (rest : ℕ) → IsRest old new rest → (rest ≤ length old - rest_from change) ⊎ ((length old ≤ at_of change) × (length new ≡ length old))
    within_or_none rest at_end = elim (cases_lt (length old) (length new)) [
      | inl longer ↦
          let behind = behind_longer old new (at_of change) rest longest_front.is at_end once_new longer in
          inl (longest_rest.longest rest at_end behind (omega (arith, behind, longer)))
      | inr le ↦ elim (cases_lt (length new) (length old)) [
        | inl shorter ↦
            let behind = behind_longer new old (at_of change) rest (front_back old new (at_of change) longest_front.is)
            (rest_back old new rest at_end) once_old shorter in
            inl (longest_rest.longest rest at_end (omega (arith, behind, shorter)) behind)
        | inr ge ↦ equal (omega (arith, le, ge)) (cases_lt (length old) (at_of change + rest))
      ]
    ]
      where
        equal : length old ≡ length new → (length old < at_of change + rest) ⊎ (at_of change + rest ≤ length old)
            → (rest ≤ length old - rest_from change) ⊎ ((length old ≤ at_of change) × (length new ≡ length old))
        equal same (inl over) =
            let streams = same_streams old new (at_of change) rest longest_front.is at_end same over in
            inr (longest_front.longest (length old) (subst (λ units. IsFront old units (length old)) streams (front_whole old)), sym same)
        equal same (inr behind) = inl (longest_rest.longest rest at_end behind (omega (arith, behind, same)))

    pub few_everywhere : AreFewForAll old new steps
    few_everywhere front rest count point = elim (within_or_none rest point.at_end) [
      | inl within ↦ few_behind front rest count (longest_front.longest front point.in_front) point within
      | inr none ↦ few_none none.0 (length new - (front + rest) + count + 64) (omega arith) none.1
    ]
