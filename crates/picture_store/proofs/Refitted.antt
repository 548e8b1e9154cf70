-- What a store becomes where it takes the units of a changed stream.
use Rattle.std.proofs.Common.{◌≡◌, refl, ap, sym, ◌∙◌, subst, ℕ, ◌==◌, List, [], length, Option, None, Some, IsSome, inl, inr, ◌⊎◌, ◌↔◌}
use Rattle.std.specs.Prelude.{Contains}
use Rattle.std.specs.Option.{is_some}
use Rattle.std.specs.Map.{keys_of as numbers_of, lookup}
use Rattle.std.specs.List.{zip}
use Rattle.std.proofs.lemmas.List.Elements.{All-contains}
use Rattle.std.proofs.lemmas.Cmp.{nat_eq_equiv}
use Rattle.std.proofs.lemmas.Map.Views.{exact_unsigned_eq, Contains-from_lookup, IsSome-lookup_from_Contains}
use Rattle.unit_outcomes.specs.declared.outcome.Outcome.{Outcome}
use Rattle.decode_jobs.specs.KeyMaps.{tree_at}
use Rattle.decode_jobs.specs.Keys.{Key}
use Rattle.picture_keys.specs.Known.{keys_of}
use Rattle.picture_keys.specs.Numbered.{AllStandFor}
use Rattle.picture_keys.specs.Decodable.{AllCanDecode}
use Rattle.picture_store.specs.declared.job_out.JobOut.{JobOut}
use Rattle.held_pictures.specs.Left.{IsLeft, ArePut}
use Rattle.picture_store.specs.Changes.{Refits, RefitsLosing}
use Rattle.held_pictures.specs.KeySlots.{place_at, numbers_held}
use Rattle.picture_store.specs.KeySlots.{KeySlotsValue, carried, held_or, ArePlaced}
use Rattle.picture_store.specs.Stored.{Trees, key_for, keys_for, IsRight, IsSound}
use Rattle.held_pictures.proofs.Members.{among_map, among_source, left_among, All-from_contains}
use Rattle.picture_store.proofs.Viewed.{none_not_some, Marked, viewed}
use Rattle.held_pictures.proofs.Held.{held_found, found_held}
use Rattle.picture_store.proofs.Lifting.{for_contains, contains_for, left_for, put_for}
use Rattle.picture_store.proofs.Numbered.{one_to_one}
use Rattle.picture_store.proofs.Stays.{key_is, stand_live, stand_number}
use Rattle.decode_jobs.specs.Inputs.{InputValue}

-- a picture that is carried was held or another one
held_or_from : {P : Type 0} (place : Option (Option P)) (other : Option P) (picture : P)
    → held_or place other ≡ Some picture → (place ≡ Some (Some picture)) ⊎ (other ≡ Some picture)
held_or_from None other picture is = inr is
held_or_from (Some None) other picture is = inr is
held_or_from (Some (Some held)) other picture is = inl (ap Some is)

-- where one was held, one is carried
held_or_held : {P : Type 0} (place : Option (Option P)) (other : Option P) (held : P) → place ≡ Some (Some held)
    → (picture : P) × (held_or place other ≡ Some picture)
held_or_held None other held is = absurd (cc)
held_or_held (Some None) other held is = absurd (cc)
held_or_held (Some (Some picture)) other held is = (picture, refl)

-- and where another one is
held_or_other : {P : Type 0} (place : Option (Option P)) (other : Option P) → IsSome other
    → (picture : P) × (held_or place other ≡ Some picture)
held_or_other (Some (Some picture)) other is = (picture, refl)
held_or_other None (Some picture) is = (picture, refl)
held_or_other None None is = cc
held_or_other (Some None) (Some picture) is = (picture, refl)
held_or_other (Some None) None is = cc

none_is_some : {X : Type 0} (o : Option X) (x : X) → o ≡ None → o ≡ Some x → ⊥
none_is_some o x none some = cc

inner : {X : Type 0} (o : Option X) (a b : X) → o ≡ Some a → o ≡ Some b → a ≡ b
inner o a b first second = cc

module _ {P : Type 0} {IsDecoded : InputValue P → P → Type 0} {IsOf : Key → P → Type 0} (keys : Trees) (ids : List ℕ) (outcomes : List Outcome) (numbers : List (Option ℕ)) (key_slots : KeySlotsValue P)
    (cached : List (ℕ × P)) (out : List (JobOut P)) (kept : IsSound IsDecoded IsOf keys ids outcomes numbers key_slots cached out)
    (more_ids : List ℕ) (more_outcomes : List Outcome) (more_found : List (Option ℕ)) (more_places : KeySlotsValue P)
    (stand : AllStandFor keys more_found (keys_of (zip more_ids more_outcomes)))
    (placed : ArePlaced more_found key_slots cached more_places) where
  -- a key in use has the place of its number
  placed_used : (number : ℕ) → Contains more_found (Some number)
      → place_at more_places number ≡ Some (carried key_slots cached number)
  placed_used number is =
      elim (placed number) [ inl used ↦ used.1 | inr unused ↦ absurd (unused.0 is) ]

  -- a place is that of a key in use
  used_placed : (number : ℕ) → IsSome (place_at more_places number) → Contains more_found (Some number)
  used_placed number is =
      elim (placed number) [ inl used ↦ used.0 | inr unused ↦ absurd (none_not_some (place_at more_places number) unused.1 is) ]

  pub used_same : (number : ℕ) → IsSome (place_at more_places number) ↔ Contains more_found (Some number)
  used_same number = (used_placed number, λ is. ap is_some (placed_used number is))

  -- a picture that is held now was held or cached
  pub held_before : (number : ℕ) (picture : P) → place_at more_places number ≡ Some (Some picture)
      → (place_at key_slots number ≡ Some (Some picture)) ⊎ Contains cached (number, picture)
  held_before number picture is =
      let used : Contains more_found (Some number) = used_placed number (ap is_some is) in
      let same : carried key_slots cached number ≡ Some picture =
      inner (place_at more_places number) (carried key_slots cached number) (Some picture) (placed_used number used) is in
      elim (held_or_from (place_at key_slots number) (lookup (λ other. number == other) cached) picture same) [
        | inl held ↦ inl held
        | inr stored ↦ inr (Contains-from_lookup exact_unsigned_eq number picture cached stored)
      ]

  pub held_right : (number : ℕ) (picture : P) → place_at more_places number ≡ Some (Some picture)
      → IsRight IsDecoded IsOf keys number picture
  held_right number picture is =
      elim (held_before number picture is) [
        | inl held ↦ kept.right.held number picture held
        | inr stored ↦ All-contains (λ pair. IsRight IsDecoded IsOf keys pair.0 pair.1) cached (number, picture) kept.stored stored
      ]

  -- the key of a number is in use where the number is a unit's
  in_use_for : (number : ℕ) → Contains more_found (Some number)
      → Contains (keys_of (zip more_ids more_outcomes)) (Some (key_for keys number))
  in_use_for number is =
      let live : (key : Key) × (tree_at keys number ≡ Some key) × Contains (keys_of (zip more_ids more_outcomes)) (Some key) =
      stand_live keys more_found (keys_of (zip more_ids more_outcomes)) stand number is in
      subst (λ (key : Key). Contains (keys_of (zip more_ids more_outcomes)) (Some key)) (sym (key_is keys number live.0 live.1))
      live.2

  -- and the other way round, where the number is live
  used_for : (number : ℕ) (key : Key) → tree_at keys number ≡ Some key
      → Contains (keys_of (zip more_ids more_outcomes)) (Some key) → Contains more_found (Some number)
  used_for number key live is =
      let unit : (n : ℕ) × Contains more_found (Some n) × (tree_at keys n ≡ Some key) =
      stand_number keys more_found (keys_of (zip more_ids more_outcomes)) stand key is in
      subst (λ n. Contains more_found (Some n)) (kept.right.one.trees unit.0 number key unit.2 live) unit.1

  used_for_key : (number : ℕ) (key : Key) → tree_at keys number ≡ Some key
      → Contains (keys_of (zip more_ids more_outcomes)) (Some (key_for keys number)) → Contains more_found (Some number)
  used_for_key number key live is =
      used_for number key live
      (subst (λ (k : Key). Contains (keys_of (zip more_ids more_outcomes)) (Some k)) (key_is keys number key live) is)

  -- each number that is held or cached has a tree
  held_live : (number : ℕ) → Contains (numbers_held key_slots) number → (key : Key) × (tree_at keys number ≡ Some key)
  held_live number is =
      let held : (picture : P) × (place_at key_slots number ≡ Some (Some picture)) =
      held_found key_slots number is in
      let right : IsRight IsDecoded IsOf keys number held.0 = kept.right.held number held.0 held.1 in
      (right.0, right.1)

  cached_live : (number : ℕ) → Contains (numbers_of cached) number → (key : Key) × (tree_at keys number ≡ Some key)
  cached_live number is =
      let found : (pair : ℕ × P) × Contains cached pair × (pair.0 ≡ number) =
      among_source (λ (pair : ℕ × P). pair.0) cached number is in
      let right : IsRight IsDecoded IsOf keys found.0.0 found.0.1 =
      All-contains (λ pair. IsRight IsDecoded IsOf keys pair.0 pair.1) cached found.0 kept.stored found.1 in
      (right.0, subst (λ n. tree_at keys n ≡ Some right.0) found.2 right.1)

  -- a picture that was held or cached is held where its key is in use
  held_after : (number : ℕ) (key : Key) → tree_at keys number ≡ Some key
      → Contains (keys_of (zip more_ids more_outcomes)) (Some key)
      → (picture : P) × (carried key_slots cached number ≡ Some picture)
      → Contains (keys_for keys (numbers_held more_places)) key
  held_after number key live in_use picture =
      let there : place_at more_places number ≡ Some (Some picture.0) =
      placed_used number (used_for number key live in_use) ∙ ap Some picture.1 in
      subst (Contains (keys_for keys (numbers_held more_places))) (key_is keys number key live)
      (contains_for keys (numbers_held more_places) number (found_held more_places number picture.0 there))

  was_held : (key : Key) → Contains (keys_of (zip more_ids more_outcomes)) (Some key)
      → Contains (keys_for keys (numbers_held key_slots)) key → Contains (keys_for keys (numbers_held more_places)) key
  was_held key in_use is =
      let source : (number : ℕ) × Contains (numbers_held key_slots) number × (key_for keys number ≡ key) =
      for_contains keys (numbers_held key_slots) key is in
      let live : (k : Key) × (tree_at keys source.0 ≡ Some k) = held_live source.0 source.1 in
      let tree : tree_at keys source.0 ≡ Some key =
      live.1 ∙ ap Some (sym (key_is keys source.0 live.0 live.1) ∙ source.2) in
      let held : (picture : P) × (place_at key_slots source.0 ≡ Some (Some picture)) =
      held_found key_slots source.0 source.1 in
      held_after source.0 key tree in_use
      (held_or_held (place_at key_slots source.0) (lookup (λ other. source.0 == other) cached) held.0 held.1)

  was_cached : (key : Key) → Contains (keys_of (zip more_ids more_outcomes)) (Some key)
      → Contains (keys_for keys (numbers_of cached)) key → Contains (keys_for keys (numbers_held more_places)) key
  was_cached key in_use is =
      let source : (number : ℕ) × Contains (numbers_of cached) number × (key_for keys number ≡ key) =
      for_contains keys (numbers_of cached) key is in
      let live : (k : Key) × (tree_at keys source.0 ≡ Some k) = cached_live source.0 source.1 in
      let tree : tree_at keys source.0 ≡ Some key =
      live.1 ∙ ap Some (sym (key_is keys source.0 live.0 live.1) ∙ source.2) in
      held_after source.0 key tree in_use
      (held_or_other (place_at key_slots source.0) (lookup (λ other. source.0 == other) cached)
      (IsSome-lookup_from_Contains nat_eq_equiv source.0 cached source.1))

  now_held : (key : Key) → Contains (keys_for keys (numbers_held more_places)) key
      → Contains (keys_of (zip more_ids more_outcomes)) (Some key)
      × (Contains (keys_for keys (numbers_held key_slots)) key ⊎ Contains (keys_for keys (numbers_of cached)) key)
  now_held key is =
      let source : (number : ℕ) × Contains (numbers_held more_places) number × (key_for keys number ≡ key) =
      for_contains keys (numbers_held more_places) key is in
      let held : (picture : P) × (place_at more_places source.0 ≡ Some (Some picture)) =
      held_found more_places source.0 source.1 in (
        subst (λ (k : Key). Contains (keys_of (zip more_ids more_outcomes)) (Some k)) source.2
            (in_use_for source.0 (used_placed source.0 (ap is_some held.1))),
        elim (held_before source.0 held.0 held.1) [
          | inl before ↦ inl (subst (Contains (keys_for keys (numbers_held key_slots))) source.2
              (contains_for keys (numbers_held key_slots) source.0 (found_held key_slots source.0 held.0 before)))
          | inr stored ↦ inr (subst (Contains (keys_for keys (numbers_of cached))) source.2
              (contains_for keys (numbers_of cached) source.0 (among_map (λ (pair : ℕ × P). pair.0) cached (source.0, held.0) stored)))
        ],
      )

  pub held_same : (key : Key)
      → Contains (keys_for keys (numbers_held more_places)) key
      ↔ (Contains (keys_of (zip more_ids more_outcomes)) (Some key)
      × (Contains (keys_for keys (numbers_held key_slots)) key ⊎ Contains (keys_for keys (numbers_of cached)) key))
  held_same key =
      (now_held key, λ is. elim is.1 [ inl held ↦ was_held key is.0 held | inr stored ↦ was_cached key is.0 stored ])

  module _ (left gone_cached : List (ℕ × P))
      (leaves : IsLeft (λ number. Contains more_found (Some number)) (numbers_of cached) (numbers_of left))
      (left_pairs : (number : ℕ) (picture : P) → Contains left (number, picture) → Contains cached (number, picture))
      (capacity : ℕ) (gone : List ℕ) (go : IsLeft (λ number. IsSome (place_at more_places number)) (numbers_held key_slots) gone)
      (lost : ℕ) (puts : ArePut capacity gone (numbers_of left) (numbers_of gone_cached) lost)
      (put_pairs : (number : ℕ) (picture : P) → Contains gone_cached (number, picture)
      → Contains left (number, picture) ⊎ (place_at key_slots number ≡ Some (Some picture))) where
    pub cached_leave : IsLeft (λ key. Contains (keys_of (zip more_ids more_outcomes)) (Some key))
        (keys_for keys (numbers_of cached)) (keys_for keys (numbers_of left))
    cached_leave =
        left_for keys (λ number. Contains more_found (Some number))
        (λ key. Contains (keys_of (zip more_ids more_outcomes)) (Some key)) (numbers_of cached) (numbers_of left)
        (λ number is in_use. in_use_for number in_use)
        (λ number is in_use. used_for_key number (cached_live number is).0 (cached_live number is).1 in_use) leaves

    pub held_go : IsLeft (λ key. Contains (keys_of (zip more_ids more_outcomes)) (Some key))
        (keys_for keys (numbers_held key_slots)) (keys_for keys gone)
    held_go =
        left_for keys (λ number. IsSome (place_at more_places number))
        (λ key. Contains (keys_of (zip more_ids more_outcomes)) (Some key)) (numbers_held key_slots)
        gone
        (λ number is used. in_use_for number (used_placed number used))
        (λ number is in_use. (used_same number).1 (used_for_key number (held_live number is).0 (held_live number is).1 in_use))
        go

    gone_live : (number : ℕ) → Contains gone number → IsSome (tree_at keys number)
    gone_live number is =
        ap is_some (held_live number
        (left_among (λ n. IsSome (place_at more_places n)) (numbers_held key_slots) gone
        go number is)).1

    left_live : (number : ℕ) → Contains (numbers_of left) number → IsSome (tree_at keys number)
    left_live number is =
        ap is_some (cached_live number
        (left_among (λ n. Contains more_found (Some n)) (numbers_of cached) (numbers_of left) leaves number is)).1

    pub cached_put : ArePut capacity (keys_for keys gone) (keys_for keys (numbers_of left))
        (keys_for keys (numbers_of gone_cached)) lost
    cached_put =
        put_for keys capacity gone (numbers_of left) (numbers_of gone_cached) lost
        kept.right.one.trees gone_live left_live puts

    stored_right : (pair : ℕ × P) → Contains gone_cached pair → IsRight IsDecoded IsOf keys pair.0 pair.1
    stored_right pair is =
        elim (put_pairs pair.0 pair.1 is) [
          | inl before ↦
              All-contains (λ (p : ℕ × P). IsRight IsDecoded IsOf keys p.0 p.1) cached pair kept.stored (left_pairs pair.0 pair.1 before)
          | inr held ↦ kept.right.held pair.0 pair.1 held
        ]

    pub kept_after : length more_ids ≡ length more_outcomes → AllCanDecode [] (zip more_ids more_outcomes)
        → IsSound IsDecoded IsOf keys more_ids more_outcomes more_found more_places gone_cached out
    kept_after same decodable = record {
      right = record { one = kept.right.one; held = held_right };
      same = same;
      stand = stand;
      decodable = decodable;
      used = used_same;
      stored = All-from_contains gone_cached stored_right;
      jobs = kept.jobs;
    }

    abbrev refits_so : (given : ℕ) (released more_released : List P) (marked : Marked)
        → Refits (viewed keys ids outcomes numbers key_slots cached capacity out given released marked) more_ids more_outcomes
        (viewed keys more_ids more_outcomes more_found more_places gone_cached capacity out given more_released marked)
    refits_so given released more_released marked = record {
      ids_are = refl;
      outcomes_are = refl;
      capacity_stays = refl;
      out_stays = refl;
      given_stays = refl;
      marked_stays = refl;
      numbers_stay =
          one_to_one keys kept.right.one numbers (keys_of (zip ids outcomes)) more_found (keys_of (zip more_ids more_outcomes))
          kept.stand stand;
      held_are = held_same;
      stay = keys_for keys (numbers_of left);
      leave = cached_leave;
      gone = keys_for keys gone;
      go = held_go;
      lost = lost;
      cached_are = cached_put;
    }

    pub refitted : (given : ℕ) (released more_released : List P) (marked : Marked)
        → RefitsLosing (viewed keys ids outcomes numbers key_slots cached capacity out given released marked) more_ids more_outcomes lost
        (viewed keys more_ids more_outcomes more_found more_places gone_cached capacity out given more_released marked)
    refitted given released more_released marked = (refits_so given released more_released marked, refl)
