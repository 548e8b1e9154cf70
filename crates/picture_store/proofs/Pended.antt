-- Units that wait by their numbers are pending by their keys, and those that are due are due.
use Rattle.std.proofs.Common.{◌≡◌, refl, sym, ap, subst, ◌∙◌, ℕ, List, [], ◌∷◌, Option, None, Some, Contains, map, get_or, slice_get, ◌⊎◌, inl, inr, Bool, true, false, ◌==◌}
use Rattle.std.specs.List.{zip}
use Rattle.std.proofs.lemmas.Bool.{eqb-true, eq-eqb}
use Rattle.std.proofs.lemmas.Option.{get_or_from_slice_get, same_Some}
use Rattle.unit_outcomes.specs.declared.outcome.Outcome.{Outcome}
use Rattle.decode_jobs.specs.KeyMaps.{tree_at}
use Rattle.decode_jobs.specs.Keys.{Key}
use Rattle.picture_keys.specs.Known.{keys_of}
use Rattle.held_pictures.specs.KeySlots.{place_at}
use Rattle.held_pictures.proofs.Members.{here, there, nowhere, first_or_among}
use Rattle.held_pictures.specs.Held.{IsWaiting}
use Rattle.held_pictures.specs.Needed.{IsNeeded}
use Rattle.held_pictures.proofs.Closing.{needed_more}
use Rattle.held_pictures.proofs.Standing.{stands_at, number_there, tree_there, number_of_key, key_of_number}
use Rattle.picture_store.specs.declared.job_out.JobOut.{JobOut}
use Rattle.picture_store.specs.Stores.{OutValue, StoreValue, IsReady}
use Rattle.picture_store.specs.Showing.{HasKey}
use Rattle.picture_store.specs.KeySlots.{KeySlotsValue}
use Rattle.picture_store.specs.Due.{IsHeld, IsDueNumber, IsDueThere}
use Rattle.picture_store.specs.Stored.{Trees, jobs_for, numbers_out, IsSound}
use Rattle.picture_store.specs.Pending.{IsPending, IsNeededBy, IsDueAt, IsAnyOutBy}
use Rattle.picture_store.proofs.Ready.{held_key, key_held}
use Rattle.picture_store.proofs.Stays.{key_is, none_is_not_some, stand_number}
use Rattle.picture_store.proofs.Taken.{due_for, due_from, out_seen_key, seen_out_key}
use Rattle.picture_store.proofs.Viewed.{Marked, viewed}
use Rattle.picture_store.proofs.Waiting.{got_among, ready_needed}
use Rattle.decode_jobs.specs.Inputs.{InputValue}

among_first : (first : ℕ) (numbers : List ℕ) (number : ℕ) (b : Bool) → b ≡ (first == number)
    → Contains numbers number ⊎ (Contains numbers number → ⊥)
    → Contains (first ∷ numbers) number ⊎ (Contains (first ∷ numbers) number → ⊥)
among_first first numbers number true is rest =
    inl (subst (Contains (first ∷ numbers)) (eqb-true first number (sym is)) (here first numbers))
among_first first numbers number false is (inl later) = inl (there first number numbers later)
among_first first numbers number false is (inr not) =
    inr (λ among. elim (first_or_among first number numbers among) [
      | inl same ↦
          let equal : (first == number) ≡ true = eq-eqb first number same in
          cc
      | inr later ↦ not later
    ])

-- a number is among others, or it isn't
pub among_or_not : (numbers : List ℕ) (number : ℕ) → Contains numbers number ⊎ (Contains numbers number → ⊥)
among_or_not [] number = inr (nowhere number)
among_or_not (first ∷ numbers) number =
    among_first first numbers number (first == number) refl (among_or_not numbers number)

-- a picture isn't nothing
apart_none : {P : Type 0} (picture : P) → ◌≡◌ {A = Option (Option P)} None (Some (Some picture)) → ⊥
apart_none picture same = cc

apart_empty : {P : Type 0} (picture : P) → ◌≡◌ {A = Option (Option P)} (Some None) (Some (Some picture)) → ⊥
apart_empty picture same = cc

-- a picture is held, or it isn't
pub held_or_not : {P : Type 0} (key_slots : KeySlotsValue P) (number : ℕ) → IsHeld key_slots number ⊎ (IsHeld key_slots number → ⊥)
held_or_not {P = P} key_slots number = by_place (place_at key_slots number) refl
  where
    by_place : (place : Option (Option P)) → place_at key_slots number ≡ place
        → IsHeld key_slots number ⊎ (IsHeld key_slots number → ⊥)
    by_place None is = inr (λ held. apart_none held.0 (sym is ∙ held.1))
    by_place (Some None) is = inr (λ held. apart_empty held.0 (sym is ∙ held.1))
    by_place (Some (Some picture)) is = inl (picture, is)

module _ {P : Type 0} {IsDecoded : InputValue P → P → Type 0} {IsOf : Key → P → Type 0} (keys : Trees) (ids : List ℕ) (outcomes : List Outcome) (numbers : List (Option ℕ)) (key_slots : KeySlotsValue P)
    (cached : List (ℕ × P)) (capacity : ℕ) (out : List (JobOut P)) (given : ℕ) (released : List P) (marked : Marked)
    (kept : IsSound IsDecoded IsOf keys ids outcomes numbers key_slots cached out) where
  -- the store as contracts see it
  abbrev store : StoreValue P
  store = viewed keys ids outcomes numbers key_slots cached capacity out given released marked

  -- the number of a unit's key
  pub number_at_place : (at : ℕ) (key : Key) → HasKey store at key
      → (n : ℕ) × (slice_get numbers at ≡ Some (Some n)) × (tree_at keys n ≡ Some key)
  number_at_place at key has =
      let number = number_there keys numbers (keys_of (zip ids outcomes)) kept.stand at (Some key) has in
      let is = number_of_key keys number.0 key
      (stands_at keys numbers (keys_of (zip ids outcomes)) kept.stand at number.0 (Some key) number.1 has) in
      (is.0, number.1 ∙ ap Some is.1, is.2)

  -- the key of a unit's number
  pub key_at_place : (at n : ℕ) → slice_get numbers at ≡ Some (Some n) → (key : Key) × HasKey store at key × (tree_at keys n ≡ Some key)
  key_at_place at n is =
      let tree = tree_there keys numbers (keys_of (zip ids outcomes)) kept.stand at (Some n) is in
      let key = key_of_number keys n tree.0
      (stands_at keys numbers (keys_of (zip ids outcomes)) kept.stand at (Some n) tree.0 is tree.1) in
      (key.0, tree.1 ∙ ap Some key.1, key.2)

  -- a unit that waits is pending, and the other way round
  pub pending_of : (at : ℕ) → IsWaiting numbers key_slots at → IsPending store at
  pending_of at (n, is, not) =
      let key = key_at_place at n is in
      (key.0, key.1, λ held. not (key_held keys key_slots kept.right n key.0 key.2 held))

  pub waiting_of : (at : ℕ) → IsPending store at → IsWaiting numbers key_slots at
  waiting_of at (key, has, not) =
      let number = number_at_place at key has in
      (number.0, number.1, λ held. not (held_key keys key_slots kept.right number.0 key number.2 held))

  -- so are the needed units one by one
  pub needed_of : (target at : ℕ) → IsNeeded (zip ids outcomes) (IsWaiting numbers key_slots) target at → IsNeededBy store target at
  needed_of target at needed =
      needed_more (zip ids outcomes) (IsWaiting numbers key_slots) (IsPending store) target pending_of at needed

  pub needed_from : (target at : ℕ) → IsNeededBy store target at → IsNeeded (zip ids outcomes) (IsWaiting numbers key_slots) target at
  needed_from target at needed =
      needed_more (zip ids outcomes) (IsPending store) (IsWaiting numbers key_slots) target waiting_of at needed

  -- a unit whose number is due is due, and the other way round
  pub due_of : (at : ℕ) → IsDueThere keys key_slots out numbers at → IsDueAt store at
  due_of at (n, is, due) =
      let key = key_at_place at n is in
      (key.0, key.1, due_for keys ids outcomes numbers key_slots cached capacity out given released marked kept n key.0 key.2 (got_among numbers at (Some n) is) due)

  pub due_there : (at : ℕ) → IsDueAt store at → IsDueThere keys key_slots out numbers at
  due_there at (key, has, due) =
      let number = number_at_place at key has in
      let from = due_from keys ids outcomes numbers key_slots cached capacity out given released marked kept key due in
      let same : from.0 ≡ number.0 = kept.right.one.trees from.0 number.0 key from.2 number.2 in
      (number.0, number.1, subst (IsDueNumber keys key_slots out) same from.3)

  -- the number of a unit that is due is
  pub due_number : (at number : ℕ) → slice_get numbers at ≡ Some (Some number) → IsDueAt store at
      → IsDueNumber keys key_slots out number
  due_number at number is due =
      let there = due_there at due in
      subst (IsDueNumber keys key_slots out)
      (same_Some there.0 number (same_Some (Some there.0) (Some number) (sym there.1 ∙ is))) there.2

  -- where no needed unit of a pending one is due, the key of one is out
  pub one_out : (target : ℕ) → ((at : ℕ) → IsNeededBy store target at → IsDueAt store at → ⊥) → IsPending store target
      → IsAnyOutBy store target
  one_out target none pending = ready_needed store target (IsAnyOutBy store target) decide is_out pending
    where
      by_held : (key : Key) (n : ℕ) → tree_at keys n ≡ Some key → (Contains store.held key → IsAnyOutBy store target)
          → ((Contains store.held key → ⊥) → IsAnyOutBy store target)
          → IsHeld key_slots n ⊎ (IsHeld key_slots n → ⊥) → IsAnyOutBy store target
      by_held key n tree if_held if_not (inl held) = if_held (held_key keys key_slots kept.right n key tree held)
      by_held key n tree if_held if_not (inr not) = if_not (λ held. not (key_held keys key_slots kept.right n key tree held))

      decide : (key : Key) → Contains (keys_of (zip ids outcomes)) (Some key) → (Contains store.held key → IsAnyOutBy store target)
          → ((Contains store.held key → ⊥) → IsAnyOutBy store target) → IsAnyOutBy store target
      decide key used if_held if_not =
          let number = stand_number keys numbers (keys_of (zip ids outcomes)) kept.stand key used in
          by_held key number.0 number.2 if_held if_not (held_or_not key_slots number.0)

      by_out : (at : ℕ) (key : Key) → IsNeededBy store target at → HasKey store at key
          → (Contains store.held key → ⊥) → IsReady store.held key → (n : ℕ) → tree_at keys n ≡ Some key
          → Contains (numbers_out out) n ⊎ (Contains (numbers_out out) n → ⊥) → IsAnyOutBy store target
      by_out at key needed has not is_ready n tree (inl among) = (
        at,
        needed,
        (
          key,
          has,
          subst (Contains (map (λ (job : OutValue P). job.key) (jobs_for keys out))) (key_is keys n key tree)
              (out_seen_key keys ids outcomes numbers key_slots cached capacity out given released marked kept n among),
        ),
      )
      by_out at key needed has not is_ready n tree (inr free) =
          absurd (none at needed (
            key,
            has,
            record {
              in_use = got_among (keys_of (zip ids outcomes)) at (Some key) has;
              awaited = not;
              free = λ is. free (seen_out_key keys ids outcomes numbers key_slots cached capacity out given released marked kept n key tree is);
              ready = is_ready;
            },
          ))

      is_out : (at : ℕ) (key : Key) → IsNeededBy store target at → HasKey store at key
          → (Contains store.held key → ⊥) → IsReady store.held key → IsAnyOutBy store target
      is_out at key needed has not is_ready =
          let number = number_at_place at key has in
          by_out at key needed has not is_ready number.0 number.2 (among_or_not (numbers_out out) number.0)

  -- a unit without a key has none that is held
  pub no_key : (at : ℕ) → None ≡ get_or numbers at None → (key : Key) → HasKey store at key → Contains store.held key → ⊥
  no_key at none key has held =
      let number = number_at_place at key has in
      none_is_not_some number.0 (sym (get_or_from_slice_get numbers at (Some number.0) None number.1) ∙ sym none)

  -- nor has one whose number isn't held
  pub not_held : (at n : ℕ) → slice_get numbers at ≡ Some (Some n) → (IsHeld key_slots n → ⊥) → (key : Key) → HasKey store at key
      → Contains store.held key → ⊥
  not_held at n is not key has held =
      let number = number_at_place at key has in
      let same : number.0 ≡ n = same_Some number.0 n (same_Some (Some number.0) (Some n) (sym number.1 ∙ is)) in
      not (key_held keys key_slots kept.right n key (subst (λ m. tree_at keys m ≡ Some key) same number.2) held)

  -- and one whose number is held has a key that is
  pub held_key_at : (at n : ℕ) → slice_get numbers at ≡ Some (Some n) → IsHeld key_slots n
      → (key : Key) × HasKey store at key × (tree_at keys n ≡ Some key) × Contains store.held key
  held_key_at at n is held =
      let key = key_at_place at n is in
      (key.0, key.1, key.2, held_key keys key_slots kept.right n key.0 key.2 held)
