-- A pending unit needs one whose references' pictures are held, so none is stuck.
use Rattle.std.proofs.Common.{◌≡◌, refl, sym, subst, ℕ, zero, suc, ◌<◌, List, [], ◌∷◌, map, take, Option, None, Some, Contains, slice_get, inl, inr, arith}
use Rattle.std.specs.Prelude.{option_and_then}
use Rattle.std.proofs.lemmas.Option.{none-some, slice_get_within, get_or_from_slice_get}
use Rattle.h264_controls.specs.declared.request.RequestBody.{RequestBody}
use Rattle.unit_outcomes.specs.declared.outcome.Outcome.TheVariants.{Plan as Planned}
use Rattle.unit_outcomes.specs.declared.outcome.Plan.{Plan}
use Rattle.decode_jobs.specs.KeyMaps.{entered}
use Rattle.decode_jobs.specs.Keys.{Key, named_by_all, tree_with, bodies_of}
use Rattle.picture_keys.specs.Known.{Known, key_at, known_after}
use Rattle.held_pictures.proofs.Members.{here, there}
use Rattle.held_pictures.specs.Needed.IsNeeded.{itself, named}
use Rattle.held_pictures.proofs.Closing.{needed_waits}
use Rattle.held_pictures.proofs.Lookups.{IsLastOf, known_of}
use Rattle.held_pictures.proofs.Standing.{valid_there}
use Rattle.picture_store.specs.Stores.{StoreValue, units_of, unit_keys, IsInUse, IsReady}
use Rattle.picture_store.specs.Showing.{HasKey}
use Rattle.picture_store.specs.Pending.{IsPending, IsNeededBy, IsStuck}

-- what stands at a place is contained
pub got_among : {X : Type 0} (xs : List X) (i : ℕ) (x : X) → slice_get xs i ≡ Some x → Contains xs x
got_among xs i x is = (i, slice_get_within xs i x is, get_or_from_slice_get xs i x x is)

module _ {P : Type 0} (store : StoreValue P) (target : ℕ) (G : Type 0)
    (decide : (key : Key) → IsInUse store key → (Contains store.held key → G) → ((Contains store.held key → ⊥) → G) → G)
    (ready : (at : ℕ) (key : Key) → IsNeededBy store target at → HasKey store at key → (Contains store.held key → ⊥)
    → IsReady store.held key → G) where
  module _ (at own : ℕ) (plan : Plan) (is : slice_get (units_of store) at ≡ Some (own, Planned plan))
      (needed : IsNeededBy store target at) (earlier : (other : ℕ) → other < at → IsNeededBy store target other → G)
      (body : List RequestBody) where
    -- the keys that are known before the unit
    abbrev known : Known
    known = known_after [] (take at (units_of store))

    -- the key of units named at entries
    abbrev key_with : List (Option ℕ) → Key
    key_with units = tree_with body (map (λ unit. option_and_then (key_at known) unit) units)

    -- a unit that is named and isn't held is needed
    waits : (id : ℕ) → Contains (named_by_all plan.requests) (Some id) → (key : Key)
        → IsLastOf [] (units_of store) at id key → (Contains store.held key → ⊥) → G
    waits id listed key last not =
        earlier last.at last.before
        (named at last.at needed
        (record { id = id; listed = (own, plan, is, listed); before = last.before; valid = last.valid; last = last.last })
        (key, last.key_is, not))

    by_last : (id : ℕ) (units : List (Option ℕ)) → Contains (named_by_all plan.requests) (Some id)
        → ((IsReady store.held (key_with units) → G) → G) → (IsReady store.held (key_with (Some id ∷ units)) → G)
        → (key : Key) → key_at known id ≡ Some key → IsLastOf [] (units_of store) at id key → G
    by_last id units listed rest done key known_is last =
        decide key (got_among (unit_keys store) last.at (Some key) last.key_is)
        (λ held. rest (λ ready_rest.
        subst (λ (o : Option Key). IsReady store.held (entered o (key_with units)) → G) known_is done (held, ready_rest)))
        (waits id listed key last)

    by_key : (id : ℕ) (units : List (Option ℕ)) → Contains (named_by_all plan.requests) (Some id)
        → ((IsReady store.held (key_with units) → G) → G) → (IsReady store.held (key_with (Some id ∷ units)) → G)
        → (key : Option Key) → key_at known id ≡ key → G
    by_key id units listed rest done None known_is =
        rest (λ ready_rest.
        subst (λ (o : Option Key). IsReady store.held (entered o (key_with units)) → G) known_is done ready_rest)
    by_key id units listed rest done (Some key) known_is = elim (known_of [] (units_of store) at id key known_is) [
      | inl last ↦ by_last id units listed rest done key known_is last
      | inr before ↦ absurd (none-some key before.0)
    ]

    -- the keys at entries are held, or one that isn't is that of an earlier needed unit
    entries_ready : (units : List (Option ℕ))
        → ((unit : Option ℕ) → Contains units unit → Contains (named_by_all plan.requests) unit)
        → (IsReady store.held (key_with units) → G) → G
    entries_ready [] among done = done tt
    entries_ready (None ∷ units) among done =
        entries_ready units (λ unit in_rest. among unit (there None unit units in_rest)) done
    entries_ready (Some id ∷ units) among done =
        by_key id units (among (Some id) (here (Some id) units))
        (entries_ready units (λ unit in_rest. among unit (there (Some id) unit units in_rest))) done
        (key_at known id) refl

  -- from each needed unit down
  reach : (bound at : ℕ) → at < bound → IsNeededBy store target at → G
  reach zero at below needed = absurd (omega (arith, below))
  reach (suc bound) at below needed =
      let pending : IsPending store at = needed_waits (units_of store) (IsPending store) target at needed in
      let valid = valid_there (units_of store) at pending.0 pending.1 in
      entries_ready at valid.0 valid.1 valid.2 needed
      (λ other before other_needed. reach bound other (omega (arith, before, below)) other_needed) (bodies_of valid.1.requests)
      (named_by_all valid.1.requests) (λ unit is. is)
      (λ is_ready. ready at pending.0 needed pending.1 pending.2 (subst (IsReady store.held) (sym valid.3) is_ready))

  -- a pending unit needs one whose references' pictures are held
  pub ready_needed : IsPending store target → G
  ready_needed pending = reach (suc target) target (omega arith) (itself pending)

-- no unit is stuck
pub never_stuck : {P : Type 0} (store : StoreValue P) (at : ℕ) → IsStuck store at → ⊥
never_stuck store at stuck =
    ready_needed store at ⊥ (λ key used held not. not (λ is. held is))
    (λ place key needed has not is_ready.
    stuck.none_due (
      place,
      needed,
      (
        key,
        has,
        record {
          in_use = got_among (unit_keys store) place (Some key) has;
          awaited = not;
          free = λ is. stuck.none_out (place, needed, (key, has, is));
          ready = is_ready;
        },
      ),
    ))
    stuck.pending
