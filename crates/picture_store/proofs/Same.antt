-- What is stored stays but for a schedule where more keys have numbers and more of these have
-- slots.
use Rattle.std.proofs.Common.{◌≡◌, sym, ap, subst, ◌∙◌, ℕ, ◌<◌, List, Option, None, Some, IsSome, inl, inr, rules}
use Rattle.std.specs.Map.{values_of}
use Rattle.unit_outcomes.specs.declared.outcome.Outcome.{Outcome}
use Rattle.decode_jobs.specs.KeyMaps.{IsKeyMap}
use Rattle.held_pictures.specs.KeySlots.{AreSame, place_of, place_at}
use Rattle.picture_store.specs.declared.job_out.JobOut.{JobOut}
use Rattle.picture_store.specs.declared.schedule.Schedule.{Schedule}
use Rattle.picture_store.specs.KeySlots.{KeySlotsValue}
use Rattle.picture_store.specs.Stored.{Trees, IsSound, KeepsMarked, KeepsStored, keys_for}
use Rattle.picture_store.specs.Marks.{marked_for, numbers_marked}
use Rattle.picture_store.specs.Settled.{NeedsNone, AreSettled, IsStored}
use Rattle.picture_store.proofs.Looked.{looked_same, looked_stays}
use Rattle.picture_store.proofs.Viewed.{Marked, viewed}
use Rattle.picture_store.proofs.Stays.{kept_stays, viewed_stays}
use Rattle.picture_store.proofs.Marked.{marked_same, marks_stay}
use Rattle.picture_store.proofs.Settled.{settled_stay}
use Rattle.decode_jobs.specs.Inputs.{InputValue}
use Rattle.decode_jobs.specs.Keys.{Key}

module _ {P : Type 0} (key_slots grown : KeySlotsValue P) (same : AreSame key_slots grown) where
  pub place_same : (number : ℕ) → place_at grown number ≡ place_at key_slots number
  place_same number = ap place_of (same.slots number)

  needs_same : (out : List (JobOut P)) (number : Option ℕ) → NeedsNone key_slots out number → NeedsNone grown out number
  needs_same out None needs = search rules
  needs_same out (Some number) needs =
      elim needs [ inl held ↦ inl (held.0, place_same number ∙ held.1) | inr one ↦ inr one ]

  settled_same : (out : List (JobOut P)) (numbers : List (Option ℕ)) (count : ℕ) → AreSettled key_slots out numbers count
      → AreSettled grown out numbers count
  settled_same out numbers count are =
      settled_stay key_slots grown out out numbers count (λ number among needs. needs_same out number needs) are

module _ {P : Type 0} {IsDecoded : InputValue P → P → Type 0} {IsOf : Key → P → Type 0} (key_slots grown : KeySlotsValue P) (same : AreSame key_slots grown) where
  kept_same : (keys : Trees) (ids : List ℕ) (outcomes : List Outcome) (numbers : List (Option ℕ)) (cached : List (ℕ × P))
      (out : List (JobOut P)) → IsSound IsDecoded IsOf keys ids outcomes numbers key_slots cached out → IsSound IsDecoded IsOf keys ids outcomes numbers grown cached out
  kept_same keys ids outcomes numbers cached out kept = record {
    right = record {
      one = kept.right.one;
      held = λ number picture is. kept.right.held number picture (sym (place_same key_slots grown same number) ∙ is);
    };
    same = kept.same;
    stand = kept.stand;
    decodable = kept.decodable;
    used = λ number. (
      λ some. (kept.used number).0 (subst IsSome (place_same key_slots grown same number) some),
      λ is. subst IsSome (sym (place_same key_slots grown same number)) ((kept.used number).1 is),
    );
    stored = kept.stored;
    jobs = kept.jobs;
  }

module _ {P : Type 0} {IsDecoded : InputValue P → P → Type 0} {IsOf : Key → P → Type 0} (keys more : Trees) (ids : List ℕ) (outcomes : List Outcome) (numbers : List (Option ℕ)) (key_slots grown : KeySlotsValue P)
    (cached : List (ℕ × P)) (out : List (JobOut P)) (count passed : ℕ) (schedule : Option Schedule) (mark : Option (List ℕ))
    (stored : IsStored IsDecoded IsOf keys ids outcomes numbers key_slots cached out count passed schedule mark) (stay : KeepsStored numbers cached out keys more)
    (marks : KeepsMarked (numbers_marked mark) keys more) (one : IsKeyMap more) (same : AreSame key_slots grown) where
  pub kept_still : IsSound IsDecoded IsOf more ids outcomes numbers grown cached out
  kept_still =
      kept_same key_slots grown same more ids outcomes numbers cached out
      (kept_stays keys more ids outcomes numbers key_slots cached out stored.kept stay one)

  pub stored_still : IsStored IsDecoded IsOf more ids outcomes numbers grown cached out count passed None mark
  stored_still = record {
    kept = kept_still;
    counted = λ number. ap (λ slot. slot.uses) (same.slots number) ∙ stored.counted number;
    apart = λ number used. stored.apart number (subst (λ n. 0 < n) (ap (λ slot. slot.uses) (same.slots number)) used);
    settled = settled_same key_slots grown same out numbers count stored.settled;
    searched =
        looked_same key_slots grown same more out numbers passed
        (looked_stays keys more ids outcomes numbers key_slots cached out stored.kept stay passed stored.searched);
    behind = stored.behind;
    scheduled = tt;
    marked = marks_stay keys more mark stored.marked marks;
  }

  -- what contracts see stays
  pub viewed_still : (capacity given : ℕ) (released : List P)
      → viewed more ids outcomes numbers grown cached capacity out given released (marked_for more mark)
      ≡ viewed keys ids outcomes numbers key_slots cached capacity out given released (marked_for keys mark)
  viewed_still capacity given released =
      ap (λ held. record (viewed more ids outcomes numbers grown cached capacity out given released (marked_for more mark)) { held = keys_for more held })
      same.held
      ∙ ap (λ (pictures : List P). record (viewed more ids outcomes numbers key_slots cached capacity out given released (marked_for more mark)) {
        pictures = record { held = pictures; cached = values_of cached; released = released };
      }) same.pictures
      ∙ viewed_stays keys more ids outcomes numbers key_slots cached out stored.kept stay capacity given released (marked_for more mark)
      ∙ ap (λ (marked : Marked). viewed keys ids outcomes numbers key_slots cached capacity out given released marked)
      (marked_same keys more mark stored.marked marks)
