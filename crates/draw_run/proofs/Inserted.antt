-- A unit more at the end of a stream.
use Rattle.std.proofs.Common.{◌≡◌, ◌∙◌, ◌⊎◌, ⊎_elim, ℕ, zero, suc, ◌+◌, ◌<◌, List, [], ◌∷◌, ◌++◌, length, Option, Some, ap, subst, sym, refl, arith, length-append}
use Rattle.std.specs.Prelude.{Contains, insert}
use Rattle.std.specs.List.{zip}
use Rattle.std.proofs.lemmas.List.Edits.{insert_end}
use Rattle.annexb.specs.ByteStream.{joined}
use Rattle.annexb.proofs.Readings.{same_reading}
use Rattle.access_unit.specs.Answers.{IsAccepted}
use Rattle.plan_stream.specs.Streams.{numbered_from}
use Rattle.plan_stream.proofs.Streams.{length-numbered_from, numbered_from-push}
use Rattle.stand_in_session.specs.Machines.{OutValue, Machine}
use Rattle.stream_edits.specs.declared.edits.Edit.TheVariants.{Insert}
use Rattle.stream_edits.specs.declared.edits.InsertionPoint.{InsertionPoint}
use Rattle.stream_edits.specs.declared.receipts.Receipt.{Receipt}
use Rattle.stream_edits.specs.Edits.{Register}
use Rattle.stream_edits.specs.Streams.{Stream, ids_of, start_of}
use Rattle.stream_session.specs.Machines.{Edits, store_of}
use Rattle.held_pictures.specs.Left.{ArePut, IsLeft}
use Rattle.decode_jobs.specs.Keys.{Key}
use Rattle.picture_keys.specs.Known.{keys_of}
use Rattle.picture_store.specs.Stores.{IsInUse}
use Rattle.request_core.specs.Fold.{outcomes_of}
use Rattle.draw_run.specs.Loading.{HasLoaded, IsHeld, IsLoaded, KeepsRest}
use Rattle.draw_run.specs.Marks.{HoldsAll}

one_value : (o : Option ℕ) (a b : ℕ) → o ≡ Some a → o ≡ Some b → a ≡ b
one_value o a b first second = cc

no_item : (key : Key) → Contains [] key → ⊥
no_item key (zero, below, is) = absurd (omega arith)
no_item key (suc k, below, is) = absurd (omega arith)

no_items : (keys : List Key) → ((key : Key) → Contains keys key → ⊥) → keys ≡ []
no_items [] none = refl
no_items (key ∷ keys) none = absurd (none key (0, omega arith, refl))

none_kept : (old : Machine) → {parts : List (List (List ℕ))} → HasLoaded parts old → (key : Key)
    → Contains old.held key ⊎ Contains old.cached key → ⊥
none_kept old loaded key has = ⊎_elim
    (λ held. no_item key (subst (λ (l : List Key). Contains l key) loaded.none_held held))
    (λ cached. no_item key (subst (λ (l : List Key). Contains l key) loaded.none_cached cached)) has

-- nothing is put into a cache where nothing was held
none_put : (capacity : ℕ) (gone stay cached : List Key) (lost : ℕ) → gone ≡ [] → stay ≡ [] → ArePut capacity gone stay cached lost → cached ≡ []
none_put capacity gone stay cached lost none left put =
    (subst (λ (l : List Key). ArePut capacity l stay cached lost) none put).0 ∙ left

pub loaded-more : (parts : List (List (List ℕ))) (old new : Machine) (unit : List (List ℕ)) (place : InsertionPoint) (receipt : Receipt)
    → HasLoaded parts old → start_of old.register.stream place ≡ Some (length old.register.stream)
    → IsAccepted (joined unit) unit → Edits old (Insert place (joined unit)) receipt new
    → HasLoaded (parts ++ unit ∷ []) new
loaded-more parts old new unit place receipt loaded stands accepted edits =
    let made = edits.made in
    let stream = old.register.stream in
    let at : made.at ≡ length stream = one_value (start_of stream place) made.at (length stream) made.stands stands in
    let same : made.unit ≡ unit = same_reading (joined unit) made.unit unit made.accepted.has accepted.has in
    let id : receipt.id ≡ 1 + length parts = made.id_is ∙ (ap (λ (n : ℕ). n + 1) loaded.given_is ∙ omega arith) in
    record {
      stream_is =
          made.stream_is
          ∙ ap (λ (n : ℕ). insert stream n (receipt.id, made.unit)) at
          ∙ insert_end stream (receipt.id, made.unit)
          ∙ ap (λ (u : List (List ℕ)). stream ++ (receipt.id, u) ∷ []) same
          ∙ ap (λ (n : ℕ). stream ++ (n, unit) ∷ []) id
          ∙ ap (λ (s : Stream). s ++ (1 + length parts, unit) ∷ []) loaded.stream_is
          ∙ sym (numbered_from-push 1 parts unit);
      given_is = made.given_is ∙ (id ∙ omega (arith, length-append parts (unit ∷ [])));
      none_out = edits.refits.out_stays ∙ loaded.none_out;
      none_held = no_items new.held (λ key has. none_kept old loaded key ((edits.refits.held_are key).0 has).1);
      none_cached = none_put old.capacity edits.refits.gone edits.refits.stay new.cached edits.refits.lost
          (subst (λ (l : List Key). IsLeft (IsInUse (store_of new)) l edits.refits.gone) loaded.none_held edits.refits.go)
          (subst (λ (l : List Key). IsLeft (IsInUse (store_of new)) l edits.refits.stay) loaded.none_cached edits.refits.leave)
          edits.refits.cached_are;
      capacity_is = edits.refits.capacity_stays ∙ loaded.capacity_is;
    }

-- the stream stays that of the text where only pictures come
pub held-of : (text : List ℕ) (old new : Machine) → IsLoaded text old → KeepsRest old new → HoldsAll new → IsHeld text new
held-of text old new is keeps holds = record {
  parts = is.parts;
  stream = is.stream;
  bounded = is.bounded;
  stream_is = ap (λ (r : Register). r.stream) keeps.register_stays ∙ is.loaded.stream_is;
  holds = holds;
  only = λ key has. ⊎_elim
      (λ there. absurd (no_item key (subst (λ (l : List Key). Contains l key) is.loaded.none_held there)))
      (λ used. subst (λ (r : Register). Contains (keys_of (zip (ids_of r.stream) (outcomes_of r.stream))) (Some key)) (sym keeps.register_stays) used)
      (keeps.held key has);
  none_cached = keeps.cached_stay ∙ is.loaded.none_cached;
  capacity_is = keeps.capacity_stays ∙ is.loaded.capacity_is;
}
