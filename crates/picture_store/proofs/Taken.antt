-- Which key is due, and what a store becomes where its job is taken.
use Rattle.std.proofs.Common.{◌≡◌, refl, ap, sym, ◌∙◌, subst, ℕ, suc, ◌<◌, ◌+◌, List, [], ◌∷◌, ◌++◌, length, map, take, drop, Option, None, Some, IsSome, IsTrue, IfSome, arith, rules}
use Rattle.std.specs.Prelude.{All, Contains, option_and_then, slice_get, slice_index_or}
use Rattle.std.specs.List.{zip}
use Rattle.std.proofs.lemmas.List.{map-append, length-take-le}
use Rattle.std.proofs.lemmas.List.Elements.{All-contains, All-push}
use Rattle.unit_outcomes.specs.declared.outcome.Outcome.{Outcome}
use Rattle.unit_outcomes.specs.declared.outcome.Outcome.TheVariants.{Plan as Planned, Fault as Faulty, Empty}
use Rattle.decode_jobs.specs.KeyMaps.{tree_at}
use Rattle.decode_jobs.specs.Inputs.{InputValue, is_whole}
use Rattle.decode_jobs.specs.Jobs.{JobValue}
use Rattle.decode_jobs.specs.Keys.{Key, named_by_all}
use Rattle.decode_jobs.specs.Made.{IsClosed}
use Rattle.picture_keys.specs.Known.{Known, key_at, key_of, key_of_outcome, known_after, keys_after, keys_of}
use Rattle.picture_keys.specs.Numbered.{AllStandFor}
use Rattle.picture_store.specs.declared.job_out.JobOut.{JobOut}
use Rattle.picture_store.specs.Stores.{OutValue, StoreValue, IsReady}
use Rattle.picture_store.specs.Jobs.{IsDue, IsAnyDue, Gives, Takes}
use Rattle.held_pictures.specs.KeySlots.{place_at, numbers_held, pictures_held}
use Rattle.picture_store.specs.KeySlots.{KeySlotsValue}
use Rattle.picture_store.specs.Due.{IsDueNumber, IsNotDue}
use Rattle.picture_store.specs.Inputs.{HasKnown, IsInputOf}
use Rattle.picture_store.specs.Stored.{Trees, key_for, keys_for, jobs_for, numbers_out, IsJobRight, IsSound}
use Rattle.held_pictures.proofs.Members.{among_map, among_source, All-from_contains}
use Rattle.picture_store.proofs.Viewed.{Marked, seen, viewed, none_not_some}
use Rattle.picture_store.proofs.Stays.{key_is, stand_live, stand_number}
use Rattle.picture_store.proofs.Landed.{awaited_for, held_for, found_length, keyed, length-zip_same}
use Rattle.held_pictures.proofs.UnitAt.{IsAt, unit_at, second_at, stand_take}

-- the first of two lists
take_front : {X : Type 0} (xs ys : List X) → take (length xs) (xs ++ ys) ≡ xs
take_front [] ys = refl
take_front (x ∷ xs) ys = ap (λ rest. x ∷ rest) (take_front xs ys)

module _ {P : Type 0} {IsDecoded : InputValue P → P → Type 0} {IsOf : Key → P → Type 0} (keys : Trees) (ids : List ℕ) (outcomes : List Outcome) (numbers : List (Option ℕ)) (key_slots : KeySlotsValue P)
    (cached : List (ℕ × P)) (capacity : ℕ) (out : List (JobOut P)) (given : ℕ) (released : List P) (marked : Marked)
    (kept : IsSound IsDecoded IsOf keys ids outcomes numbers key_slots cached out) where
  -- a job's key is among those of the jobs that are seen
  pub out_seen_key : (number : ℕ) → Contains (numbers_out out) number
      → Contains (map (λ (job : OutValue P). job.key) (jobs_for keys out)) (key_for keys number)
  out_seen_key number is =
      let source : (job : JobOut P) × Contains out job × (job.key ≡ number) =
      among_source (λ (job : JobOut P). job.key) out number is in
      subst (λ n. Contains (map (λ (job : OutValue P). job.key) (jobs_for keys out)) (key_for keys n)) source.2
      (among_map (λ (job : OutValue P). job.key) (jobs_for keys out) (seen keys source.0)
      (among_map (seen keys) out source.0 source.1))

  -- and the other way round, where the number is live
  pub seen_out_key : (number : ℕ) (key : Key) → tree_at keys number ≡ Some key
      → Contains (map (λ (job : OutValue P). job.key) (jobs_for keys out)) key → Contains (numbers_out out) number
  seen_out_key number key live is =
      let outer : (job : OutValue P) × Contains (jobs_for keys out) job × (job.key ≡ key) =
      among_source (λ (job : OutValue P). job.key) (jobs_for keys out) key is in
      let inner : (job : JobOut P) × Contains out job × (seen keys job ≡ outer.0) =
      among_source (seen keys) out outer.0 outer.1 in
      let right = All-contains (IsJobRight IsDecoded IsOf keys) out inner.0 kept.jobs inner.1 in
      let same : key_for keys inner.0.key ≡ key = ap (λ (job : OutValue P). job.key) inner.2 ∙ outer.2 in
      let tree : tree_at keys inner.0.key ≡ Some key =
      right.1 ∙ ap Some (sym (key_is keys inner.0.key right.0 right.1) ∙ same) in
      subst (λ n. Contains (numbers_out out) n) (kept.right.one.trees inner.0.key number key tree live)
      (among_map (λ (job : JobOut P). job.key) out inner.0 inner.1)

  -- a number that is due is that of a key that is
  pub due_for : (number : ℕ) (key : Key) → tree_at keys number ≡ Some key → Contains numbers (Some number)
      → IsDueNumber keys key_slots out number
      → IsDue (viewed keys ids outcomes numbers key_slots cached capacity out given released marked) key
  due_for number key live unit due =
      let same : key_for keys number ≡ key = key_is keys number key live in
      let tree : (k : Key) × (tree_at keys number ≡ Some k) × Contains (keys_of (zip ids outcomes)) (Some k) =
      stand_live keys numbers (keys_of (zip ids outcomes)) kept.stand number unit in
      record {
        in_use =
            subst (λ (k : Key). Contains (keys_of (zip ids outcomes)) (Some k))
            (sym (key_is keys number tree.0 tree.1) ∙ same) tree.2;
        awaited = λ held.
            awaited_for keys ids outcomes numbers key_slots cached out kept number key live due.awaited
            (subst (Contains (keys_for keys (numbers_held key_slots))) (sym same) held);
        free = λ is. due.free (seen_out_key number key live is);
        ready =
            subst (IsReady (keys_for keys (numbers_held key_slots)))
            (sym (key_is keys number due.key due.tree) ∙ same) due.ready;
      }

  awaits : (number : ℕ) (key : Key) → tree_at keys number ≡ Some key
      → (Contains (keys_for keys (numbers_held key_slots)) key → ⊥) → (place : Option (Option P))
      → place ≡ place_at key_slots number → IsSome (place_at key_slots number) → place_at key_slots number ≡ Some None
  awaits number key live not None same some = absurd (none_not_some (place_at key_slots number) (sym same) some)
  awaits number key live not (Some None) same some = sym same
  awaits number key live not (Some (Some picture)) same some =
      absurd (not
      (subst (Contains (keys_for keys (numbers_held key_slots))) (key_is keys number key live)
      (held_for keys ids outcomes numbers key_slots cached out kept number key live picture (sym same))))

  -- a key that is due has a number that is
  pub due_from : (key : Key) → IsDue (viewed keys ids outcomes numbers key_slots cached capacity out given released marked) key
      → (number : ℕ) × Contains numbers (Some number) × (tree_at keys number ≡ Some key)
      × IsDueNumber keys key_slots out number
  due_from key due =
      let unit : (n : ℕ) × Contains numbers (Some n) × (tree_at keys n ≡ Some key) =
      stand_number keys numbers (keys_of (zip ids outcomes)) kept.stand key due.in_use in (
        unit.0,
        unit.1,
        unit.2,
        record {
          awaited =
              awaits unit.0 key unit.2 due.awaited (place_at key_slots unit.0) refl ((kept.used unit.0).1 unit.1);
          free = λ is.
              due.free (subst (Contains (map (λ (job : OutValue P). job.key) (jobs_for keys out))) (key_is keys unit.0 key unit.2)
              (out_seen_key unit.0 is));
          key = key;
          tree = unit.2;
          ready = due.ready;
        },
      )

  -- where no unit's number is due, no key is
  pub none_due : All (IsNotDue keys key_slots out) numbers
      → IsAnyDue (viewed keys ids outcomes numbers key_slots cached capacity out given released marked) → ⊥
  none_due none any =
      let from : (number : ℕ) × Contains numbers (Some number) × (tree_at keys number ≡ Some any.0)
      × IsDueNumber keys key_slots out number = due_from any.0 any.1 in
      All-contains (IsNotDue keys key_slots out) numbers (Some from.0) none from.1 from.3

  module _ (at : ℕ) (within : at < length numbers) (number : ℕ) (is : Some number ≡ slice_index_or numbers at (Some number))
      (due : IsDueNumber keys key_slots out number) where
    in_units : at < length (zip ids outcomes)
    in_units = omega (
      arith,
      within,
      found_length keys ids outcomes numbers key_slots cached capacity out given released marked kept,
      length-zip_same ids outcomes kept.same,
    )

    -- the unit at the place
    pub unit : (unit : ℕ × Outcome) × IsAt [] (zip ids outcomes) at unit
    unit = unit_at [] (zip ids outcomes) at in_units

    -- the keys that are known before it
    abbrev pub known : Known
    known = known_after [] (take at (zip ids outcomes))

    one_key : (first : Key) (second : Option Key) → slice_get (keys_of (zip ids outcomes)) at ≡ Some (Some first)
        → slice_get (keys_of (zip ids outcomes)) at ≡ Some second → Some first ≡ second
    one_key first second is_first is_second = cc

    -- the number is that of the unit's key
    tree_is : tree_at keys number ≡ key_of_outcome known unit.0.1
    tree_is =
        let has : (key : Key) × (slice_get (keys_of (zip ids outcomes)) at ≡ Some (Some key)) × (tree_at keys number ≡ Some key) =
        keyed keys ids outcomes numbers key_slots cached capacity out given released marked kept at within number is in
        has.2 ∙ one_key has.0 (key_of_outcome known unit.0.1) has.1 unit.1.key

    pub has_known : (outcome : Outcome) → unit.0.1 ≡ outcome → HasKnown keys outcome number known
    has_known outcome same =
        subst (λ o. HasKnown keys o number known) same
        (record { tree = tree_is; decodes = unit.1.can kept.decodable })

    contained : Contains numbers (Some number)
    contained = (at, within, sym is)

    -- some key is due
    pub any_due : IsAnyDue (viewed keys ids outcomes numbers key_slots cached capacity out given released marked)
    any_due = (due.key, due_for number due.key due.tree contained due)

    none_before : All (IsNotDue keys key_slots out) (take at numbers) → (key : Option Key)
        → Contains (keys_after [] (take at (zip ids outcomes))) key
        → IfSome key (λ k. IsDue (viewed keys ids outcomes numbers key_slots cached capacity out given released marked) k → ⊥)
    none_before none None among = search rules
    none_before none (Some key) among = λ key_due.
        let before : AllStandFor keys (take at numbers) (keys_after [] (take at (zip ids outcomes))) =
        subst (AllStandFor keys (take at numbers)) unit.1.before
        (stand_take keys numbers (keys_of (zip ids outcomes)) at kept.stand) in
        let first : (n : ℕ) × Contains (take at numbers) (Some n) × (tree_at keys n ≡ Some key) =
        stand_number keys (take at numbers) (keys_after [] (take at (zip ids outcomes))) before key among in
        let from : (n : ℕ) × Contains numbers (Some n) × (tree_at keys n ≡ Some key) × IsDueNumber keys key_slots out n =
        due_from key key_due in
        let same : from.0 ≡ first.0 = kept.right.one.trees from.0 first.0 key from.2 first.2 in
        All-contains (IsNotDue keys key_slots out) (take at numbers) (Some first.0) none first.1
        (subst (IsDueNumber keys key_slots out) same from.3)

    -- the job of the unit is given
    pub given_job : (outcome : Outcome) → unit.0.1 ≡ outcome
        → (input : InputValue P) → IsInputOf IsOf known outcome input
        → All (λ reference. Contains (pictures_held key_slots) reference.picture) input.references
        → (next from : ℕ) → next ≡ given + 1 → (more : List (JobOut P)) → more ≡ out ++ (record { number = next; key = number; input = input; first_place = from }) ∷ []
        → Gives IsOf (viewed keys ids outcomes numbers key_slots cached capacity out given released marked) at (record { number = next; input = input })
        (viewed keys ids outcomes numbers key_slots cached capacity more next released marked)
    given_job (Faulty fault) same input made held next from next_is more more_is = absurd made
    given_job Empty same input made held next from next_is more more_is = absurd made
    given_job (Planned plan) same input made held next from next_is more more_is =
        let tree : tree_at keys number ≡ Some (key_of known plan.requests) =
        tree_is ∙ ap (key_of_outcome known) same in
        let key_same : key_for keys number ≡ key_of known plan.requests =
        key_is keys number (key_of known plan.requests) tree in
        record {
          before = take at (zip ids outcomes);
          id = unit.0.0;
          plan = plan;
          after = drop (suc at) (zip ids outcomes);
          stands =
              unit.1.parts
              ∙ ap (λ o. take at (zip ids outcomes) ++ (unit.0.0, o) ∷ drop (suc at) (zip ids outcomes)) same;
          at_is = sym (length-take-le at (zip ids outcomes) (omega (arith, in_units)));
          due = due_for number (key_of known plan.requests) tree contained due;
          number_is = next_is;
          requests_are = made.0;
          shows = made.1;
          order = made.3;
          held = held;
          new_is =
              ap (λ (jobs : List (OutValue P)). record (viewed keys ids outcomes numbers key_slots cached capacity out given released marked) { jobs_out = jobs; jobs_given = next })
              (ap (jobs_for keys) more_is
              ∙ map-append (seen keys) out ((record { number = next; key = number; input = input; first_place = from }) ∷ [])
              ∙ ap (λ (key : Key). jobs_for keys out ++ (record { number = next; key = key; input = input }) ∷ []) key_same);
        }

    -- where no unit before it is due, its job is taken
    pub taken : (job : JobValue P) (new : StoreValue P)
        → Gives IsOf (viewed keys ids outcomes numbers key_slots cached capacity out given released marked) at job new
        → All (IsNotDue keys key_slots out) (take at numbers)
        → (takes : Takes IsOf (viewed keys ids outcomes numbers key_slots cached capacity out given released marked) job new) × (at ≡ takes.at)
    taken job new gives none = (
      record {
        at = at;
        gives = gives;
        earliest =
            subst (λ (units : List (ℕ × Outcome)). All (λ key. IfSome key
            (λ k. IsDue (viewed keys ids outcomes numbers key_slots cached capacity out given released marked) k → ⊥)) (keys_of units)) before_is
            (All-from_contains (keys_after [] (take at (zip ids outcomes))) (none_before none));
      },
      refl,
    )
      where
        before_is : take at (zip ids outcomes) ≡ gives.before
        before_is =
            ap (λ n. take n (zip ids outcomes)) gives.at_is
            ∙ ap (take (length gives.before)) gives.stands
            ∙ take_front gives.before ((gives.id, Planned gives.plan) ∷ gives.after)

    -- what is stored then
    pub kept_taken : IsClosed IsDecoded IsOf → (outcome : Outcome) → unit.0.1 ≡ outcome → (input : InputValue P) → IsInputOf IsOf known outcome input
        → (next from : ℕ) (more : List (JobOut P))
        → more ≡ out ++ (record { number = next; key = number; input = input; first_place = from }) ∷ []
        → IsSound IsDecoded IsOf keys ids outcomes numbers key_slots cached more
    kept_taken closed (Faulty fault) same input made next from more more_is = absurd made
    kept_taken closed Empty same input made next from more more_is = absurd made
    kept_taken closed (Planned plan) same input made next from more more_is =
        let tree : tree_at keys number ≡ Some (key_of known plan.requests) =
        tree_is ∙ ap (key_of_outcome known) same in
        let job : JobOut P = record { number = next; key = number; input = input; first_place = from } in
        let right : IsJobRight IsDecoded IsOf keys job = (
          key_of known plan.requests,
          tree,
          λ picture decoded. subst (λ requests. IsOf (key_of known requests) picture) made.0
              (closed (map (λ unit. option_and_then (key_at known) unit) (named_by_all input.requests)) input picture made.1 decoded),
          made.2,
        ) in
        subst (IsSound IsDecoded IsOf keys ids outcomes numbers key_slots cached) (sym more_is)
        (record {
          right = kept.right;
          same = kept.same;
          stand = kept.stand;
          decodable = kept.decodable;
          used = kept.used;
          stored = kept.stored;
          jobs = All-push (IsJobRight IsDecoded IsOf keys) out job kept.jobs right;
        })

    -- the unit's outcome is what is stored at its place
    pub outcome_same : (outcome : Outcome) → outcome ≡ slice_index_or outcomes at outcome → unit.0.1 ≡ outcome
    outcome_same outcome there =
        second_at ids outcomes at unit.0 outcome unit.1.got there
        (omega (arith, within, found_length keys ids outcomes numbers key_slots cached capacity out given released marked kept, kept.same))

    -- what a job is given is whole
    pub whole_of : (outcome : Outcome) (input : InputValue P) → IsInputOf IsOf known outcome input → IsTrue (is_whole input)
    whole_of (Planned plan) input made = made.2
    whole_of (Faulty fault) input made = absurd made
    whole_of Empty input made = absurd made
