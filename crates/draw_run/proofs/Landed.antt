-- Jobs that are taken and landed one at a time.
use Rattle.std.proofs.Common.{◌≡◌, ◌∙◌, ℕ, ◌+◌, zero, suc, inl, inr, ⊎_elim, List, [], ◌∷◌, ◌++◌, Option, None, Some, Ok, ap, sym, subst, refl, map, arith}
use Rattle.std.specs.Prelude.{Contains, remove, slice_get}
use Rattle.std.specs.List.{All, zip}
use Rattle.std.proofs.lemmas.List.Elements.{All-head}
use Rattle.decode_jobs.specs.Keys.{Key}
use Rattle.picture_keys.specs.Known.{key_of, keys_of, known_after}
use Rattle.picture_store.specs.Jobs.{IsSameJob}
use Rattle.picture_store.specs.Pending.{IsPending}
use Rattle.stand_in_session.specs.Machines.{OutValue, StoreValue, Machine}
use Rattle.picture_store.specs.declared.answers.Landing.{Landing}
use Rattle.picture_store.specs.declared.answers.Landing.TheVariants as landings
use Rattle.stand_in_device.specs.Jobs.{JobValue}
use Rattle.stream_edits.specs.Edits.{Register}
use Rattle.stream_edits.specs.Streams.{ids_of, place_of}
use Rattle.stand_in_session.specs.Jobs.{AnswersTake, AnswersLand}
use Rattle.stream_session.specs.Machines.{store_of}
use Rattle.stream_session.specs.Needing.{IsAnyOutFor, IsPendingIn}
use Rattle.picture_store.specs.Stores.{IsInUse}
use Rattle.request_core.specs.Fold.{outcomes_of}
use Rattle.draw_run.specs.Loading.{KeepsRest}
use Rattle.draw_run.specs.Marks.{HoldsAll}

none_among : (key : Key) → Contains [] key → ⊥
none_among key (zero, below, is) = absurd (omega arith)
none_among key (suc k, below, is) = absurd (omega arith)

-- where no job is out, no unit waits for one
none_out : (machine : Machine) (id : ℕ) → machine.jobs_out ≡ [] → IsAnyOutFor machine id → ⊥
none_out machine id none (at, stands, (needed, is_needed, (key, has, out))) =
    none_among key (subst (λ (jobs : List OutValue). Contains (map (λ job. job.key) jobs) key) none out)

-- where none is due either, none is pending
pub all-held : (old new : Machine) → old.jobs_out ≡ [] → AnswersTake old (Ok None) new
    → ((id : ℕ) → IsPendingIn old id → IsAnyOutFor old id) → HoldsAll new
all-held old new none answers waits = λ id pending.
    let store : store_of new ≡ store_of old = answers.0.1 in
    let register : new.register ≡ old.register = answers.1.1 in
    none_out old id none
    (waits id (
      pending.0,
      sym (ap (λ (r : Register). place_of r.stream id) register) ∙ pending.1,
      subst (λ (s : StoreValue). IsPending s pending.0) store pending.2,
    ))

nothing_there : (at : ℕ) (out : OutValue) → slice_get [] at ≡ Some out → ⊥
nothing_there at out is = cc

only_place : (out job : OutValue) (at : ℕ) → slice_get (job ∷ []) at ≡ Some out → remove (job ∷ []) at ≡ []
only_place out job zero is = refl
only_place out job (suc at) is = absurd (nothing_there at out is)

-- a store's keys in use are those of the stream
used-still : (old new : Machine) (key : Key) → new.register ≡ old.register → IsInUse (store_of new) key → IsInUse (store_of old) key
used-still old new key same used =
    subst (λ (r : Register). Contains (keys_of (zip (ids_of r.stream) (outcomes_of r.stream))) (Some key)) same used

-- what stays where nothing lands
pub keeps-nothing : (machine : Machine) → machine.jobs_out ≡ [] → KeepsRest machine machine
keeps-nothing machine none = record {
  register_stays = refl;
  capacity_stays = refl;
  cached_stay = refl;
  none_out = none;
  held = λ key has. inl has;
}

-- and over two steps
pub keeps-then : (old between new : Machine) → KeepsRest old between → KeepsRest between new → KeepsRest old new
keeps-then old between new first next = record {
  register_stays = next.register_stays ∙ first.register_stays;
  capacity_stays = next.capacity_stays ∙ first.capacity_stays;
  cached_stay = next.cached_stay ∙ first.cached_stay;
  none_out = next.none_out;
  held = λ key has. ⊎_elim (λ there. first.held key there)
      (λ used. inr (used-still old between key first.register_stays used)) (next.held key has);
}

-- where none is due
pub keeps-none : (old new : Machine) → old.jobs_out ≡ [] → AnswersTake old (Ok None) new → KeepsRest old new
keeps-none old new none answers =
    let store : store_of new ≡ store_of old = answers.0.1 in
    record {
      register_stays = answers.1.1;
      capacity_stays = ap (λ (s : StoreValue). s.capacity) store;
      cached_stay = ap (λ (s : StoreValue). s.cached) store;
      none_out = ap (λ (s : StoreValue). s.jobs_out) store ∙ none;
      held = λ key has. inl (subst (λ (s : StoreValue). Contains s.held key) store has);
    }

module _ (old between new : Machine) (job : JobValue) (none : old.jobs_out ≡ [])
    (takes : AnswersTake old (Ok (Some job)) between) where
  abbrev only : OutValue
  only = record { number = job.number; key = key_of (known_after [] takes.0.gives.before) takes.0.gives.plan.requests; input = job.input }

  alone : between.jobs_out ≡ only ∷ []
  alone = ap (λ (s : StoreValue). s.jobs_out) takes.0.gives.new_is ∙ ap (λ (l : List OutValue). l ++ only ∷ []) none

  left : (store : StoreValue) (at : ℕ) (out : OutValue) → slice_get between.jobs_out at ≡ Some out
      → store.jobs_out ≡ remove between.jobs_out at → store.jobs_out ≡ []
  left store at out stands is =
      is ∙ (ap (λ (l : List OutValue). remove l at) alone
      ∙ only_place out only at (subst (λ (l : List OutValue). slice_get l at ≡ Some out) alone stands))

  -- the job that is out alone lands
  pub keeps-landed : (answer : Landing) → AnswersLand between job answer new → KeepsRest old new
  keeps-landed landings.Foreign lands =
      absurd (All-head (λ (out : OutValue). IsSameJob job out → ⊥) only []
      (subst (λ (l : List OutValue). All (λ (out : OutValue). IsSameJob job out → ⊥) l) alone lands.0.2.0) (refl, refl))
  keeps-landed landings.Stale lands =
      let store = lands.0.2.3.1 in
      let given = takes.0.gives.new_is in
      record {
        register_stays = lands.1.1 ∙ takes.1.1;
        capacity_stays = ap (λ (s : StoreValue). s.capacity) store ∙ ap (λ (s : StoreValue). s.capacity) given;
        cached_stay = ap (λ (s : StoreValue). s.cached) store ∙ ap (λ (s : StoreValue). s.cached) given;
        none_out = left (store_of new) lands.0.2.0 lands.0.2.1 lands.0.2.2.stands (ap (λ (s : StoreValue). s.jobs_out) store);
        held = λ key has. inl (subst (λ (s : StoreValue). Contains s.held key) given (subst (λ (s : StoreValue). Contains s.held key) store has));
      }
  keeps-landed landings.Taken lands =
      let store = lands.0.2.3.4 in
      let given = takes.0.gives.new_is in
      let out = lands.0.2.1 in
      record {
        register_stays = lands.1.1 ∙ takes.1.1;
        capacity_stays = ap (λ (s : StoreValue). s.capacity) store ∙ ap (λ (s : StoreValue). s.capacity) given;
        cached_stay = ap (λ (s : StoreValue). s.cached) store ∙ ap (λ (s : StoreValue). s.cached) given;
        none_out = left (store_of new) lands.0.2.0 out lands.0.2.2.stands (ap (λ (s : StoreValue). s.jobs_out) store);
        held = λ key has. ⊎_elim (λ there. inl (subst (λ (s : StoreValue). Contains s.held key) given there))
            (λ same. inr (used-still old between key takes.1.1
            (subst (λ (k : Key). IsInUse (store_of between) k) (sym same) lands.0.2.3.0)))
            ((lands.0.2.3.2 key).0 has);
      }
