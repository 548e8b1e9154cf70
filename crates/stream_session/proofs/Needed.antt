-- Needed units of a session are those of its store.
use Rattle.decode_jobs.specs.Keys.{Key}
use Rattle.std.proofs.Common.{◌≡◌, refl, sym, ap, ◌∙◌, subst, ℕ, ◌<◌, List, length, Option, None, Some}
use Rattle.std.specs.Prelude.{slice_get, Err}
use Rattle.std.proofs.lemmas.Option.{same_Some}
use Rattle.unit_outcomes.specs.declared.outcome.Outcome.TheVariants.{Plan as Planned}
use Rattle.decode_jobs.specs.Jobs.{JobValue}
use Rattle.picture_store.specs.declared.answers.TakeRefused.{TakeRefused}
use Rattle.picture_store.specs.declared.answers.TakeRefused.TheVariants.{JobsSpent, Memory}
use Rattle.picture_store.specs.Jobs.{Gives}
use Rattle.picture_store.specs.Pending.{IsPending, IsAnyDueBy, IsAnyOutBy}
use Rattle.picture_store.specs.Released as released
use Rattle.picture_store.specs.Stores.{StoreValue}
use Rattle.picture_store.specs.TakingFor as pictures
use Rattle.stream_edits.specs.Edits.{Register}
use Rattle.stream_edits.specs.Streams.{Stream, ids_of, place_of}
use Rattle.stream_session.specs.Stored.{History, machine_of}
use Rattle.stream_session.specs.Machines.{store_of}
use Rattle.stream_session.specs.Needing.{AnswersReleased, AnswersUncache, IsPendingIn, IsAnyDueFor, IsAnyOutFor, TakesFor, AnswersTakeWithUnitFor}
use Rattle.stream_session.proofs.Pictured.{IsStoreOf, IsStoreOf-stays, UnitsStay, both_seen, one_seen, same_units, store_is}
use Rattle.stream_session.proofs.Told.{within_ids}

-- where nothing has the id, nothing needs
pub none_there : {P : ℕ → Type 0} (place : Option ℕ) → place ≡ None → ((at : ℕ) × (place ≡ Some at) × P at) → ⊥
none_there place none (at, is, p) = let no : ◌≡◌ {A = Option ℕ} None (Some at) = sym none ∙ is in cc

module _ {P : Type 0} {IsOf : Key → P → Type 0} where
  -- where a job is given
  pub UnitsStay-gives : (old : StoreValue P) (at : ℕ) (job : JobValue P) (new : StoreValue P) → Gives IsOf old at job new → UnitsStay old new
  UnitsStay-gives old at job new gives = same_units old new _ gives.new_is refl refl

module _ {P : Type 0} where
  -- where a released picture goes back
  pub UnitsStay-released : (old : StoreValue P) (answer : Option P) (new : StoreValue P)
      → released.AnswersReleased old answer new → UnitsStay old new
  UnitsStay-released old (Some picture) new is = same_units old new _ is.2 refl refl
  UnitsStay-released old None new is = same_units old new old is.1 refl refl

  module _ (history : History) (register : Register) (store : StoreValue P) (is : IsStoreOf register.stream store) where
    -- a released picture goes back
    pub released_seen : (answer : Option P) (new : StoreValue P) → released.AnswersReleased store answer new
        → AnswersReleased (machine_of history register store) answer (machine_of history register new)
    released_seen answer new answers = (
      both_seen (λ (before after : StoreValue P). released.AnswersReleased before answer after) history history register register
          store new is (IsStoreOf-stays register.stream store new is (UnitsStay-released store answer new answers)) answers,
      (refl, refl, refl),
    )

    -- a pending unit of the session is one of its store
    pub pending_stored : (at : ℕ) → IsPending (store_of (machine_of history register store)) at → IsPending store at
    pending_stored at pending =
        subst (λ (s : StoreValue P). IsPending s at) (store_is history register store is) pending

    pub out_seen : (at : ℕ) → IsAnyOutBy store at → IsAnyOutBy (store_of (machine_of history register store)) at
    out_seen at out = one_seen (λ (s : StoreValue P). IsAnyOutBy s at) history register store is out

    -- where a pending unit's needed unit is out in the store, it is so in the session
    pub all_wait : ((at : ℕ) → IsPending store at → IsAnyOutBy store at) → (id : ℕ)
        → IsPendingIn (machine_of history register store) id → IsAnyOutFor (machine_of history register store) id
    all_wait waits id pending =
        (pending.0, pending.1, out_seen pending.0 (waits pending.0 (pending_stored pending.0 pending.2)))

    module _ (id target : ℕ) (stands : place_of register.stream id ≡ Some target) where
      pub one_waits : (IsPending store target → IsAnyOutBy store target) → IsPendingIn (machine_of history register store) id
          → IsAnyOutFor (machine_of history register store) id
      one_waits waits pending =
          let same : pending.0 ≡ target = same_Some pending.0 target (sym pending.1 ∙ stands) in
          (target, stands, out_seen target (waits (subst (IsPending store) same (pending_stored pending.0 pending.2))))

      -- a needed unit is due in the session where one is in the store
      pub due_seen : IsAnyDueBy store target → IsAnyDueFor (machine_of history register store) id
      due_seen due = (target, stands, one_seen (λ (s : StoreValue P). IsAnyDueBy s target) history register store is due)

      pub due_stored : IsAnyDueFor (machine_of history register store) id → IsAnyDueBy store target
      due_stored due =
          subst (IsAnyDueBy store) (same_Some due.0 target (sym due.1 ∙ stands))
          (subst (λ (s : StoreValue P). IsAnyDueBy s due.0) (store_is history register store is) due.2)

      -- that none is due
      pub none_seen : (new : StoreValue P) → (IsAnyDueBy store target → ⊥) × (new ≡ store)
          → (IsAnyDueFor (machine_of history register store) id → ⊥)
          × (machine_of history register new ≡ machine_of history register store)
      none_seen new told =
          (λ due. told.0 (due_stored due), ap (λ (s : StoreValue P). machine_of history register s) told.1)

      -- why no job is given
      pub refused_seen : (Of : Key → P → Type 0) (refused : TakeRefused) (new : StoreValue P)
          → pictures.AnswersTakeWithUnitFor Of store target (Err refused) new
          → AnswersTakeWithUnitFor Of (machine_of history register store) id (Err refused) (machine_of history register new)
      refused_seen Of JobsSpent new told =
          (due_seen told.0, told.1, ap (λ (s : StoreValue P). machine_of history register s) told.2)
      refused_seen Of Memory new told = ap (λ (s : StoreValue P). machine_of history register s) told

module _ {P : Type 0} (IsOf : Key → P → Type 0) where
  -- where a picture is dropped
  pub UnitsStay-drop : (old : StoreValue P) (at : ℕ) (answer : Option P) (new : StoreValue P)
      → released.AnswersDrop IsOf old at answer new → UnitsStay old new
  UnitsStay-drop old at (Some picture) new is = same_units old new _ is.6 refl refl
  UnitsStay-drop old at None new is = same_units old new old is.1 refl refl

  -- where the picture that was cached first goes back
  pub UnitsStay-uncache : (old : StoreValue P) (answer : Option P) (new : StoreValue P)
      → released.AnswersUncache IsOf old answer new → UnitsStay old new
  UnitsStay-uncache old (Some picture) new is = same_units old new _ is.4 refl refl
  UnitsStay-uncache old None new is = same_units old new old is.1 refl refl

  module _ (history : History) (register : Register) (store : StoreValue P) (is : IsStoreOf register.stream store) where
    -- a picture that is dropped in the store is dropped in the session
    pub drop_seen : (at : ℕ) (answer : Option P) (new : StoreValue P) → released.AnswersDrop IsOf store at answer new
        → released.AnswersDrop IsOf (store_of (machine_of history register store)) at answer
        (store_of (machine_of history register new))
    drop_seen at answer new answers =
        both_seen (λ (before after : StoreValue P). released.AnswersDrop IsOf before at answer after) history history register register
        store new is (IsStoreOf-stays register.stream store new is (UnitsStay-drop store at answer new answers)) answers

    -- the picture that was cached first goes back
    pub uncache_seen : (answer : Option P) (new : StoreValue P) → released.AnswersUncache IsOf store answer new
        → AnswersUncache IsOf (machine_of history register store) answer (machine_of history register new)
    uncache_seen answer new answers = (
      both_seen (λ (before after : StoreValue P). released.AnswersUncache IsOf before answer after) history history register register
          store new is (IsStoreOf-stays register.stream store new is (UnitsStay-uncache store answer new answers)) answers,
      (refl, refl, refl),
    )

module _ {P : Type 0} {IsOf : Key → P → Type 0} where
  module _ (history : History) (register : Register) (store : StoreValue P) (is : IsStoreOf register.stream store) where
    module _ (id target : ℕ) (stands : place_of register.stream id ≡ Some target) where
      -- what is taken for the unit in the store is taken in the session
      pub takes_seen : (at unit : ℕ) (job : JobValue P) (new : StoreValue P)
          → pictures.TakesFor IsOf store target (record { at = at; job = job }) new → slice_get (ids_of register.stream) at ≡ Some unit
          → TakesFor IsOf (machine_of history register store) id unit job (machine_of history register new)
      takes_seen at unit job new takes unit_is = record {
        target = target;
        target_is = stands;
        at = at;
        unit_is = unit_is;
        takes =
            both_seen (λ (before after : StoreValue P). pictures.TakesFor IsOf before target (record { at = at; job = job }) after)
            history history register register store new is
            (IsStoreOf-stays register.stream store new is (UnitsStay-gives store at job new takes.gives)) takes;
        stream = (refl, refl, refl);
      }

  -- a job that is given is of a unit of the stream
  pub gives_within : (stream : Stream) (old : StoreValue P) → IsStoreOf stream old → (at : ℕ) (job : JobValue P) (new : StoreValue P)
      → Gives IsOf old at job new → at < length (ids_of stream)
  gives_within stream old is at job new gives =
      let within = within_ids old.ids old.outcomes gives.before (gives.id, Planned gives.plan) gives.after gives.stands in
      subst (λ n. n < length (ids_of stream)) (sym gives.at_is)
      (subst (λ (ids : List ℕ). length gives.before < length ids) is.identified within)
