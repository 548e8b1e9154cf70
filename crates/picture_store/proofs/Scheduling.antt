-- The schedule of a target stays right where jobs are given and where results land.
use Rattle.std.proofs.Common.{◌≡◌, refl, sym, ap, subst, ◌∙◌, ℕ, List, [], ◌∷◌, ◌++◌, map, Bool, true, false, ◌==◌, if◌then◌else◌, Option, None, Some, Contains, ◌⊎◌, inl, inr, slice_get, slice_index_or}
use Rattle.std.specs.Prelude.{remove, option_and_then}
use Rattle.std.specs.List.{zip}
use Rattle.std.proofs.lemmas.Bool.{eqb-true, eq-eqb}
use Rattle.std.proofs.lemmas.List.{map-append}
use Rattle.std.proofs.lemmas.List.Elements.{Contains-append_left}
use Rattle.std.proofs.lemmas.Option.{same_Some}
use Rattle.std.specs.declared.cmp.Reverse.{Reverse}
use Rattle.h264_controls.specs.declared.request.RequestBody.{RequestBody}
use Rattle.unit_outcomes.specs.declared.outcome.Outcome.{Outcome}
use Rattle.decode_jobs.specs.KeyMaps.{tree_at}
use Rattle.decode_jobs.specs.Trees.Tree.{Bare, Gap, With}
use Rattle.decode_jobs.specs.Keys.{Key, named_by_all, tree_with, bodies_of}
use Rattle.picture_keys.specs.Known.{key_at}
use Rattle.held_pictures.specs.KeySlots.{place_at, numbers_held}
use Rattle.held_pictures.proofs.Held.{held_found, found_held}
use Rattle.held_pictures.proofs.Members.{nowhere, first_or_among, among_map}
use Rattle.held_pictures.specs.Held.{IsHeld, IsWaiting}
use Rattle.held_pictures.specs.Needed.{Names}
use Rattle.held_pictures.specs.Needed.IsNeeded.{itself, named}
use Rattle.held_pictures.proofs.Closing.{needed_more, needed_waits}
use Rattle.held_pictures.proofs.Standing.{known_there, named_key, own_key}
use Rattle.picture_store.specs.declared.answers.Landing.{Landing}
use Rattle.picture_store.specs.declared.answers.Landing.TheVariants.{Taken, Stale, Foreign}
use Rattle.picture_store.specs.declared.job_out.JobOut.{JobOut}
use Rattle.picture_store.specs.declared.schedule.Dependent.{Dependent}
use Rattle.picture_store.specs.declared.schedule.Schedule.{Schedule}
use Rattle.picture_store.specs.Due.{IsDueNumber, IsDueThere, IsReadyNumber}
use Rattle.picture_store.specs.Filling.{IsFilled}
use Rattle.picture_store.specs.Stored.{Trees, key_for, keys_for, numbers_out, IsSound}
use Rattle.picture_store.specs.KeySlots.{KeySlotsValue}
use Rattle.picture_store.specs.Schedules.{AreScheduled, FollowsLanding, GoesOn, IsEntryOf, IsNeededHere, IsQueue, IsQueued, IsScheduled, RefersTo}
use Rattle.picture_store.specs.Stores.{IsReady}
use Rattle.picture_store.proofs.Ready.{key_held}
use Rattle.picture_store.proofs.Lifting.{for_contains, contains_for}
use Rattle.picture_store.proofs.Settled.{out_still}
use Rattle.picture_store.proofs.Stays.{key_is}
use Rattle.decode_jobs.specs.Inputs.{InputValue}

-- where no more keys are due than were, a schedule stays right
pub scheduled_fewer : {P : Type 0} (keys : Trees) (units : List (ℕ × Outcome)) (numbers : List (Option ℕ)) (key_slots : KeySlotsValue P)
    (out more : List (JobOut P)) (schedule : Option Schedule)
    → ((number : ℕ) → IsDueNumber keys key_slots more number → IsDueNumber keys key_slots out number)
    → IsScheduled keys units numbers key_slots out schedule → IsScheduled keys units numbers key_slots more schedule
scheduled_fewer keys units numbers key_slots out more None fewer are = tt
scheduled_fewer keys units numbers key_slots out more (Some s) fewer are = record {
  by_entry = are.by_entry;
  ordered = are.ordered;
  due = λ at needed due. are.due at needed (due.0, due.1, fewer due.0 due.2);
  queued = are.queued;
  listed = are.listed;
  those = are.those;
}

-- so it does where places leave the queue whose units aren't due
pub scheduled_left : {P : Type 0} (keys : Trees) (units : List (ℕ × Outcome)) (numbers : List (Option ℕ)) (key_slots : KeySlotsValue P)
    (out : List (JobOut P)) (target : ℕ) (dependents : List Dependent) (queue after : List (Reverse ℕ)) → IsQueue after
    → ((at : ℕ) → IsQueued queue at → IsDueThere keys key_slots out numbers at → IsQueued after at)
    → ((at : ℕ) → IsQueued after at → IsQueued queue at)
    → AreScheduled keys units numbers key_slots out target dependents queue
    → AreScheduled keys units numbers key_slots out target dependents after
scheduled_left keys units numbers key_slots out target dependents queue after ordered stay only are = record {
  by_entry = are.by_entry;
  ordered = ordered;
  due = λ at needed due. stay at (are.due at needed due) due;
  queued = λ at is waits. are.queued at (only at is) waits;
  listed = are.listed;
  those = are.those;
}

-- a key that is due though a job more is out was due
pub due_given : {P : Type 0} (keys : Trees) (key_slots : KeySlotsValue P) (out more : List (JobOut P))
    → ((number : ℕ) → Contains (numbers_out out) number → Contains (numbers_out more) number)
    → (number : ℕ) → IsDueNumber keys key_slots more number → IsDueNumber keys key_slots out number
due_given keys key_slots out more stay number due = record {
  awaited = due.awaited;
  free = λ is. due.free (stay number is);
  key = due.key;
  tree = due.tree;
  ready = due.ready;
}

-- so it stays right where a job is given
pub scheduled_given : {P : Type 0} (keys : Trees) (units : List (ℕ × Outcome)) (numbers : List (Option ℕ)) (key_slots : KeySlotsValue P)
    (out : List (JobOut P)) (job : JobOut P) (more : List (JobOut P)) → more ≡ out ++ job ∷ [] → (schedule : Option Schedule)
    → IsScheduled keys units numbers key_slots out schedule → IsScheduled keys units numbers key_slots more schedule
scheduled_given {P = P} keys units numbers key_slots out job more is schedule are =
    scheduled_fewer keys units numbers key_slots out more schedule
    (due_given keys key_slots out more (λ number among. subst (λ jobs. Contains (numbers_out jobs) number) (sym is)
    (subst (λ numbers. Contains numbers number) (sym (map-append (λ (j : JobOut P). j.key) out (job ∷ [])))
    (Contains-append_left (numbers_out out) (numbers_out (job ∷ [])) number among)))) are

-- nor does one become due where a job of a key goes that doesn't wait for its picture
pub due_stale : {P : Type 0} (keys : Trees) (key_slots : KeySlotsValue P) (out : List (JobOut P)) (at : ℕ) (other : JobOut P)
    → other ≡ slice_index_or out at other → (place_at key_slots other.key ≡ Some None → ⊥) → (number : ℕ)
    → IsDueNumber keys key_slots (remove out at) number → IsDueNumber keys key_slots out number
due_stale keys key_slots out at other stands not number due = record {
  awaited = due.awaited;
  free = λ is.
      due.free (out_still out at number other stands
      (λ same. not (subst (λ n. place_at key_slots n ≡ Some None) (sym same) due.awaited)) is);
  key = due.key;
  tree = due.tree;
  ready = due.ready;
}

-- where the pictures of a key's entries are held, those that stand there are
ready_entries : (held : List Key) (bodies : List RequestBody) (entries : List (Option Key)) → IsReady held (tree_with bodies entries)
    → (key : Key) → Contains entries (Some key) → Contains held key
ready_entries held bodies [] ready key is = absurd (nowhere (Some key) is)
ready_entries held bodies (None ∷ entries) ready key is =
    elim (first_or_among None (Some key) entries is) [
      | inl same ↦ absurd cc
      | inr later ↦ ready_entries held bodies entries ready key later
    ]
ready_entries held bodies (Some first ∷ entries) ready key is =
    elim (first_or_among (Some first) (Some key) entries is) [
      | inl same ↦ subst (Contains held) (same_Some first key same) ready.0
      | inr later ↦ ready_entries held bodies entries ready.1 key later
    ]

-- where a key is ready and wasn't, one of its entries is the key that was held since
ready_split : (held more : List Key) (key : Key) → ((other : Key) → Contains more other → Contains held other ⊎ (other ≡ key))
    → (tree : Key) → IsReady more tree → IsReady held tree ⊎ IsEntryOf key tree
ready_split held more key only (Bare bodies) ready = inl tt
ready_split held more key only (Gap rest) ready = ready_split held more key only rest ready
ready_split held more key only (With first rest) ready =
    elim (only first ready.0) [
      | inl was ↦ elim (ready_split held more key only rest ready.1) [
        | inl before ↦ inl (was, before)
        | inr among ↦ inr (inr among)
      ]
      | inr new ↦ inr (inl new)
    ]

module _ {P : Type 0} {IsDecoded : InputValue P → P → Type 0} {IsOf : Key → P → Type 0} (keys : Trees) (ids : List ℕ) (outcomes : List Outcome) (numbers : List (Option ℕ)) (key_slots : KeySlotsValue P)
    (cached : List (ℕ × P)) (out : List (JobOut P)) (kept : IsSound IsDecoded IsOf keys ids outcomes numbers key_slots cached out) where
  abbrev units : List (ℕ × Outcome)
  units = zip ids outcomes

  -- a unit whose references' pictures are held names none that waits
  ready_names : (at number : ℕ) (key : Key) → slice_get numbers at ≡ Some (Some number) → tree_at keys number ≡ Some key
      → IsReady (keys_for keys (numbers_held key_slots)) key → (other : ℕ) → Names units at other
      → IsWaiting numbers key_slots other → ⊥
  ready_names at number key is tree ready other names waits =
      let one = kept.right.one in
      let name = named_key keys ids outcomes numbers kept.stand one key_slots at number is other names waits in
      let known = known_there keys ids outcomes numbers kept.stand one key_slots at number is other names waits in
      let own = own_key keys ids outcomes numbers kept.stand one key_slots at number is other names waits
      names.listed.0 names.listed.1 names.listed.2 in
      let plan = names.listed.1 in
      let same = same_Some key _ (sym tree ∙ own) in
      let entry : Contains (map (λ unit. option_and_then (key_at known) unit) (named_by_all plan.requests)) (Some name.0) =
      subst (Contains (map (λ unit. option_and_then (key_at known) unit) (named_by_all plan.requests))) name.1
      (among_map (λ unit. option_and_then (key_at known) unit) (named_by_all plan.requests) (Some names.id) names.listed.3) in
      let held = ready_entries (keys_for keys (numbers_held key_slots)) (bodies_of plan.requests)
      (map (λ unit. option_and_then (key_at known) unit) (named_by_all plan.requests))
      (subst (IsReady (keys_for keys (numbers_held key_slots))) same ready) name.0 entry in
      waits.2 (key_held keys key_slots kept.right waits.0 name.0 name.2 held)

  -- the picture of a key lands
  module _ (at : ℕ) (other : JobOut P) (stands : other ≡ slice_index_or out at other) (picture : P) (more : KeySlotsValue P)
      (awaited : place_at key_slots other.key ≡ Some None)
      (put : (number : ℕ) → place_at more number
      ≡ (if other.key == number then Some (Some picture) else place_at key_slots number))
      (key : Key) (tree : tree_at keys other.key ≡ Some key) where
    put_cases : (b : Bool) (number : ℕ) (shown : Option P) → b ≡ (other.key == number)
        → (if b then Some (Some picture) else place_at key_slots number) ≡ Some shown
        → ((other.key ≡ number) × (shown ≡ Some picture)) ⊎ (place_at key_slots number ≡ Some shown)
    put_cases true number shown is place = inl (eqb-true other.key number (sym is), sym (same_Some (Some picture) shown place))
    put_cases false number shown is place = inr place

    -- what a place has afterwards is the picture, or it had it before
    place_then : (number : ℕ) (shown : Option P) → place_at more number ≡ Some shown
        → ((other.key ≡ number) × (shown ≡ Some picture)) ⊎ (place_at key_slots number ≡ Some shown)
    place_then number shown is = put_cases (other.key == number) number shown refl (sym (put number) ∙ is)

    still_held : (b : Bool) (number : ℕ) → IsHeld key_slots number
        → (shown : P) × ((if b then Some (Some picture) else place_at key_slots number) ≡ Some (Some shown))
    still_held true number held = (picture, refl)
    still_held false number held = held

    held_still : (number : ℕ) → IsHeld key_slots number → IsHeld more number
    held_still number held =
        let still = still_held (other.key == number) number held in
        (still.0, put number ∙ still.1)

    held_before : (number : ℕ) → IsHeld more number → (other.key ≡ number) ⊎ IsHeld key_slots number
    held_before number held = elim (place_then number (Some held.0) held.1) [
      | inl new ↦ inl new.0
      | inr was ↦ inr (held.0, was)
    ]

    waits_before : (place : ℕ) → IsWaiting numbers more place → IsWaiting numbers key_slots place
    waits_before place waits = (waits.0, waits.1, λ held. waits.2 (held_still waits.0 held))

    needed_before : (target place : ℕ) → IsNeededHere units numbers more target place → IsNeededHere units numbers key_slots target place
    needed_before target place needed =
        needed_more units (IsWaiting numbers more) (IsWaiting numbers key_slots) target waits_before place needed

    awaited_before : (number : ℕ) → place_at more number ≡ Some None → place_at key_slots number ≡ Some None
    awaited_before number is = elim (place_then number None is) [
      | inl new ↦ absurd (let wrong = new.1 in cc)
      | inr was ↦ was
    ]

    not_landed : (number : ℕ) → place_at more number ≡ Some None → other.key ≡ number → ⊥
    not_landed number is same =
        let there : place_at more number ≡ Some (Some picture) =
        put number
        ∙ ap (λ b. if b then Some (Some picture) else place_at key_slots number) (eq-eqb other.key number same) in
        let both : ◌≡◌ {A = Option (Option P)} (Some None) (Some (Some picture)) = sym is ∙ there in
        cc

    -- a key that is held then was held, or is that of the job
    held_then : (o : Key) → Contains (keys_for keys (numbers_held more)) o
        → Contains (keys_for keys (numbers_held key_slots)) o ⊎ (o ≡ key)
    held_then o is_now =
        let source : (n : ℕ) × Contains (numbers_held more) n × (key_for keys n ≡ o) =
        for_contains keys (numbers_held more) o is_now in
        let held : (shown : P) × (place_at more source.0 ≡ Some (Some shown)) = held_found more source.0 source.1 in
        elim (place_then source.0 (Some held.0) held.1) [
          | inl new ↦ inr ((sym source.2 ∙ ap (key_for keys) (sym new.0)) ∙ key_is keys other.key key tree)
          | inr was ↦ inl (subst (Contains (keys_for keys (numbers_held key_slots))) source.2
              (contains_for keys (numbers_held key_slots) source.0 (found_held key_slots source.0 held.0 was)))
        ]

    -- a unit that is due then was due, or refers to the key
    pub due_or : (place : ℕ) → IsDueThere keys more (remove out at) numbers place
        → IsDueThere keys key_slots out numbers place ⊎ RefersTo keys numbers place other.key
    due_or place (number, is, due) =
        elim (ready_split (keys_for keys (numbers_held key_slots)) (keys_for keys (numbers_held more)) key held_then due.key due.ready) [
          | inl was ↦ inl (
            number,
            is,
            record {
              awaited = awaited_before number due.awaited;
              free = λ among. due.free (out_still out at number other stands (not_landed number due.awaited) among);
              key = due.key;
              tree = due.tree;
              ready = was;
            },
          )
          | inr among ↦ inr (record {
            number = number;
            stands = is;
            tree = due.key;
            tree_is = due.tree;
            first = key;
            first_is = tree;
            among = among;
          })
        ]

    -- whose references' pictures are held
    module _ (ready : IsReady (keys_for keys (numbers_held key_slots)) key) where
      -- a needed unit that names one that waits still waits itself
      names_waits : (place next : ℕ) → IsWaiting numbers key_slots place → Names units place next → IsWaiting numbers key_slots next
          → IsWaiting numbers more place
      names_waits place next waits names next_waits = (
        waits.0,
        waits.1,
        λ held. elim (held_before waits.0 held) [
          | inl same ↦
              ready_names place waits.0 key waits.1 (subst (λ n. tree_at keys n ≡ Some key) same tree) ready next names next_waits
          | inr was ↦ waits.2 was
        ],
      )

      -- what was needed and waits still is needed still
      needed_stays : (target place : ℕ) → IsNeededHere units numbers key_slots target place → IsWaiting numbers more place
          → IsNeededHere units numbers more target place
      needed_stays target place (itself waits) now = itself now
      needed_stays target place (named above below needed names waits) now =
          named above below
          (needed_stays target above needed
          (names_waits above below (needed_waits units (IsWaiting numbers key_slots) target above needed) names waits)) names now

      -- so a schedule goes on with the units that become due, or nothing is left of it
      scheduled_on : (old new : Option Schedule) → IsScheduled keys units numbers key_slots out old
          → GoesOn keys more (remove out at) numbers other.key old new → IsScheduled keys units numbers more (remove out at) new
      scheduled_on old None are goes = tt
      scheduled_on None (Some new) are goes = absurd goes
      scheduled_on (Some old) (Some new) are goes = rw (goes.0, goes.1) (record {
        by_entry = are.by_entry;
        ordered = goes.2.ordered are.ordered;
        due = λ place needed due. elim (due_or place due) [
          | inl was ↦ goes.2.stay place (are.due place (needed_before old.target place needed) was)
          | inr refers ↦
              goes.2.all place (are.listed place other.key (needed_before old.target place needed) refers
              (λ held. let both = sym held.1 ∙ awaited in cc)) due
        ];
        queued = λ place is waits. needed_stays old.target place (elim (goes.2.only place is) [
          | inl was ↦ are.queued place was (waits_before place waits)
          | inr new ↦ are.those place other.key new (waits_before place waits)
        ]) waits;
        listed = λ place entry needed refers not.
            are.listed place entry (needed_before old.target place needed) refers (λ held. not (held_still entry held));
        those = λ place entry is waits. needed_stays old.target place (are.those place entry is (waits_before place waits)) waits;
      })

  -- what is left of a schedule where the references' pictures aren't held
  scheduled_if : (kept_one : Option Schedule) (old : Option Schedule) (number : ℕ) → IsScheduled keys units numbers key_slots out old
      → ((s : Schedule) → kept_one ≡ Some s → (old ≡ Some s) × IsReadyNumber keys key_slots number)
      → IsScheduled keys units numbers key_slots out kept_one
  scheduled_if None old number are if_ready = tt
  scheduled_if (Some s) old number are if_ready =
      subst (IsScheduled keys units numbers key_slots out) (if_ready s refl).0 are

  -- a result lands
  pub scheduled_landed : (at : ℕ) (other : JobOut P) → other ≡ slice_index_or out at other → (picture : P) (landing : Landing)
      (more : KeySlotsValue P) (left : List (JobOut P)) → left ≡ remove out at → IsFilled key_slots other.key picture landing more
      → (old kept_one new : Option Schedule) → IsScheduled keys units numbers key_slots out old
      → ((s : Schedule) → kept_one ≡ Some s → (old ≡ Some s) × IsReadyNumber keys key_slots other.key)
      → FollowsLanding keys more left numbers other.key landing kept_one new
      → IsScheduled keys units numbers more left new
  scheduled_landed at other stands picture Foreign more left gone filled old kept_one new are if_ready follows = absurd filled
  scheduled_landed at other stands picture Stale more left gone filled old kept_one new are if_ready follows =
      subst (λ p. IsScheduled keys units numbers p left new) (sym filled.1)
      (subst (IsScheduled keys units numbers key_slots left) (sym follows)
      (subst (λ jobs. IsScheduled keys units numbers key_slots jobs kept_one) (sym gone)
      (scheduled_fewer keys units numbers key_slots out (remove out at) kept_one
      (due_stale keys key_slots out at other stands filled.0) (scheduled_if kept_one old other.key are if_ready))))
  scheduled_landed at other stands picture Taken more left gone filled old None None are if_ready follows = tt
  scheduled_landed at other stands picture Taken more left gone filled old None (Some new) are if_ready follows = absurd follows
  scheduled_landed at other stands picture Taken more left gone filled old (Some s) new are if_ready follows =
      let its = if_ready s refl in
      subst (λ jobs. IsScheduled keys units numbers more jobs new) (sym gone)
      (scheduled_on at other stands picture more filled.0 filled.1 its.1.0 its.1.1 its.1.2 (Some s) new
      (subst (IsScheduled keys units numbers key_slots out) its.0 are)
      (subst (λ jobs. GoesOn keys more jobs numbers other.key (Some s) new) gone follows))
