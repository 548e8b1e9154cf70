-- What a store becomes where a result lands.
use Rattle.std.proofs.Common.{◌≡◌, refl, ap, sym, ◌∙◌, subst, ℕ, ◌<◌, List, length, Option, None, Some, inl, inr, ◌⊎◌}
use Rattle.std.specs.Prelude.{Contains, remove, slice_index_or}
use Rattle.std.specs.List.{zip}
use Rattle.std.specs.Map.{values_of}
use Rattle.std.proofs.lemmas.List.Elements.{All-get_or}
use Rattle.unit_outcomes.specs.declared.outcome.Outcome.{Outcome}
use Rattle.picture_keys.specs.Known.{keys_of}
use Rattle.picture_store.specs.declared.answers.Landing.{Landing}
use Rattle.picture_store.specs.declared.answers.Landing.TheVariants.{Taken, Stale, Foreign}
use Rattle.picture_store.specs.declared.job_out.JobOut.{JobOut}
use Rattle.picture_store.specs.Stores.{StoreValue}
use Rattle.picture_store.specs.Jobs.{LandsThere}
use Rattle.held_pictures.specs.KeySlots.{place_at, numbers_held, pictures_held}
use Rattle.picture_store.specs.KeySlots.{KeySlotsValue}
use Rattle.picture_store.specs.Filling.{IsFilled}
use Rattle.picture_store.specs.Stored.{Trees, key_for, keys_for, IsRight, IsJobRight, IsSound}
use Rattle.picture_store.proofs.Viewed.{Marked, seen, viewed}
use Rattle.picture_store.proofs.Landed.{got_at, seen_without, kept_without, kept_landed, held_landed, unused_for, held_for, used_for_place, awaited_for}
use Rattle.decode_jobs.specs.Inputs.{InputValue}
use Rattle.decode_jobs.specs.Keys.{Key}

-- a place that doesn't wait for a picture isn't there or has one
module _ {P : Type 0} {IsDecoded : InputValue P → P → Type 0} {IsOf : Key → P → Type 0} (keys : Trees) (ids : List ℕ) (outcomes : List Outcome) (numbers : List (Option ℕ)) (key_slots : KeySlotsValue P)
    (cached : List (ℕ × P)) (capacity : ℕ) (out : List (JobOut P)) (given : ℕ) (released : List P) (marked : Marked)
    (kept : IsSound IsDecoded IsOf keys ids outcomes numbers key_slots cached out)
    (at : ℕ) (within : at < length out) (other : JobOut P) (is : other ≡ slice_index_or out at other) (picture : P)
    (decoded : IsDecoded other.input picture) where
  -- the picture of the job is one of its key
  right : IsRight IsDecoded IsOf keys other.key picture
  right =
      let right_job : IsJobRight IsDecoded IsOf keys (slice_index_or out at other) = All-get_or (IsJobRight IsDecoded IsOf keys) out at other within kept.jobs in
      let right_other : IsJobRight IsDecoded IsOf keys other = subst (IsJobRight IsDecoded IsOf keys) (sym is) right_job in
      (right_other.0, right_other.1, right_other.2 picture decoded)

  not_awaited : (place : Option (Option P)) → place ≡ place_at key_slots other.key
      → (place_at key_slots other.key ≡ Some None → ⊥)
      → (Contains (keys_of (zip ids outcomes)) (Some (key_for keys other.key)) → ⊥)
      ⊎ Contains (keys_for keys (numbers_held key_slots)) (key_for keys other.key)
  not_awaited None same not =
      inl (unused_for keys ids outcomes numbers key_slots cached out kept other.key right.0 right.1 (sym same))
  not_awaited (Some None) same not = absurd (not (sym same))
  not_awaited (Some (Some picture)) same not =
      inr (held_for keys ids outcomes numbers key_slots cached out kept other.key right.0 right.1 picture (sym same))

  -- what becomes of the picture of a job that is out
  pub landed : (landing : Landing) (more : KeySlotsValue P) (left : List (JobOut P)) → left ≡ remove out at
      → IsFilled key_slots other.key picture landing more
      → LandsThere (viewed keys ids outcomes numbers key_slots cached capacity out given released marked) at picture landing
      (viewed keys ids outcomes numbers more cached capacity left given released marked)
  landed Foreign more left gone filled = absurd filled
  landed Stale more left gone filled = (
    seen keys other,
    got_at (seen keys) out at other within is,
    (
      not_awaited (place_at key_slots other.key) refl filled.0,
      ap (λ p. viewed keys ids outcomes numbers p cached capacity left given released marked) filled.1
          ∙ seen_without keys ids outcomes numbers key_slots cached capacity out left given released marked at gone,
    ),
  )
  landed Taken more left gone filled = (
    seen keys other,
    got_at (seen keys) out at other within is,
    (
      used_for_place keys ids outcomes numbers key_slots cached out kept other.key right.0 right.1 None filled.0,
      awaited_for keys ids outcomes numbers key_slots cached out kept other.key right.0 right.1 filled.0,
      held_landed keys ids outcomes numbers key_slots cached out kept other.key right.0 right.1 picture right filled.0
          more filled.1,
      (filled.2, refl, refl),
      ap (λ (s : StoreValue P). record s {
        held = keys_for keys (numbers_held more);
        pictures = record { held = pictures_held more; cached = values_of cached; released = released };
      }) (seen_without keys ids outcomes numbers key_slots cached capacity out left given released marked at gone),
    ),
  )

  pub kept_filled : (landing : Landing) (more : KeySlotsValue P) (left : List (JobOut P)) → left ≡ remove out at
      → IsFilled key_slots other.key picture landing more
      → IsSound IsDecoded IsOf keys ids outcomes numbers more cached left
  kept_filled Foreign more left gone filled = absurd filled
  kept_filled Stale more left gone filled =
      subst (λ jobs. IsSound IsDecoded IsOf keys ids outcomes numbers more cached jobs) (sym gone)
      (subst (λ p. IsSound IsDecoded IsOf keys ids outcomes numbers p cached (remove out at)) (sym filled.1)
      (kept_without keys ids outcomes numbers key_slots cached out kept at))
  kept_filled Taken more left gone filled =
      subst (λ jobs. IsSound IsDecoded IsOf keys ids outcomes numbers more cached jobs) (sym gone)
      (kept_without keys ids outcomes numbers more cached out
      (kept_landed keys ids outcomes numbers key_slots cached out kept other.key right.0 right.1 picture right
      filled.0 more filled.1) at)
