-- Up to where no unit is due where a stream changes from a place on.
use Rattle.std.proofs.Common.{◌≡◌, refl, ap, sym, ◌∙◌, subst, ℕ, zero, suc, ◌<◌, ◌≤◌, List, [], ◌∷◌, ◌++◌, length, map, take, Option, None, Some, IsSome, inl, inr, slice_get, arith}
use Rattle.std.specs.Prelude.{All, Contains}
use Rattle.std.specs.List.{zip}
use Rattle.std.specs.Map.{keys_of as numbers_of}
use Rattle.std.proofs.lemmas.List.{length-append, length-take-le}
use Rattle.std.proofs.lemmas.List.Elements.{All-contains, All-map}
use Rattle.unit_outcomes.specs.declared.outcome.Outcome.{Outcome}
use Rattle.decode_jobs.specs.Trees.Tree.{Bare, Gap, With}
use Rattle.decode_jobs.specs.Keys.{Key}
use Rattle.picture_keys.specs.Known.{keys_of}
use Rattle.picture_keys.specs.Numbered.{AllStandFor}
use Rattle.held_pictures.specs.KeySlots.{place_at, numbers_held, uses_at}
use Rattle.held_pictures.proofs.Members.{among_map, All-from_contains}
use Rattle.held_pictures.proofs.Slots.{used_some}
use Rattle.picture_store.specs.declared.job_out.JobOut.{JobOut}
use Rattle.picture_store.specs.KeySlots.{KeySlotsValue, ArePlaced, carried, held_or}
use Rattle.picture_store.specs.Stored.{Trees, AreRight, jobs_for, keys_for, numbers_out, IsJobRight, IsSound}
use Rattle.picture_store.specs.Due.{IsDueNumber}
use Rattle.picture_store.specs.Looked.{AreNotDue, IsBehind, lowered}
use Rattle.picture_store.specs.Schedules.{IsEntryOf}
use Rattle.picture_store.specs.Settled.{AreSettled, NeedsNone}
use Rattle.picture_store.specs.Stores.{IsReady}
use Rattle.picture_store.proofs.Earlier.{entry_before}
use Rattle.picture_store.proofs.Looked.{none_before, not_there}
use Rattle.picture_store.proofs.Ready.{held_key, key_held}
use Rattle.picture_store.proofs.Refitted.{held_before}
use Rattle.picture_store.proofs.Settled.{settled_stay}
use Rattle.picture_store.proofs.Viewed.{seen}
use Rattle.picture_store.proofs.Waiting.{got_among}
use Rattle.decode_jobs.specs.Inputs.{InputValue}

-- what else is said of jobs stays where their places are lowered
pub map_lowered : {P : Type 0} {Y : Type 0} (f : JobOut P → Y) (from : ℕ) → ((job : JobOut P) → f (lowered from job) ≡ f job)
    → (out : List (JobOut P)) → map f (map (lowered from) out) ≡ map f out
map_lowered f from same [] = refl
map_lowered {Y} f from same (job ∷ out) =
    ap (λ (y : Y). y ∷ map f (map (lowered from) out)) (same job) ∙ ap (λ (ys : List Y). f job ∷ ys) (map_lowered f from same out)

pub numbers_lowered : {P : Type 0} (from : ℕ) (out : List (JobOut P)) → numbers_out (map (lowered from) out) ≡ numbers_out out
numbers_lowered {P = P} from out = map_lowered (λ (job : JobOut P). job.key) from (λ job. refl) out

pub jobs_lowered : {P : Type 0} (keys : Trees) (from : ℕ) (out : List (JobOut P)) → jobs_for keys (map (lowered from) out) ≡ jobs_for keys out
jobs_lowered keys from out = map_lowered (seen keys) from (λ job. refl) out

-- what is kept
pub kept_lowered : {P : Type 0} {IsDecoded : InputValue P → P → Type 0} {IsOf : Key → P → Type 0} (keys : Trees) (ids : List ℕ) (outcomes : List Outcome) (numbers : List (Option ℕ)) (key_slots : KeySlotsValue P)
    (cached : List (ℕ × P)) (out more : List (JobOut P)) (from : ℕ) → more ≡ map (lowered from) out
    → IsSound IsDecoded IsOf keys ids outcomes numbers key_slots cached out → IsSound IsDecoded IsOf keys ids outcomes numbers key_slots cached more
kept_lowered {IsDecoded = IsDecoded} {IsOf = IsOf} keys ids outcomes numbers key_slots cached out more from is kept = record {
  right = kept.right;
  same = kept.same;
  stand = kept.stand;
  decodable = kept.decodable;
  used = kept.used;
  stored = kept.stored;
  jobs =
      subst (All (IsJobRight IsDecoded IsOf keys)) (sym is)
      (All-map (IsJobRight IsDecoded IsOf keys) (lowered from) out
      (All-from_contains out (λ job among. All-contains (IsJobRight IsDecoded IsOf keys) out job kept.jobs among)));
}

-- what needs no job
pub settled_lowered : {P : Type 0} (key_slots : KeySlotsValue P) (out more : List (JobOut P)) (from : ℕ) (numbers : List (Option ℕ)) (count : ℕ)
    → more ≡ map (lowered from) out → AreSettled key_slots out numbers count → AreSettled key_slots more numbers count
settled_lowered key_slots out more from numbers count is are =
    subst (λ jobs. AreSettled key_slots jobs numbers count) (sym is)
    (settled_stay key_slots key_slots out (map (lowered from) out) numbers count stays are)
  where
    stays : (number : Option ℕ) → Contains numbers number → NeedsNone key_slots out number
        → NeedsNone key_slots (map (lowered from) out) number
    stays None among needs = needs
    stays (Some number) among needs = elim needs [
      | inl held ↦ inl held
      | inr one ↦ inr (subst (λ numbers. Contains numbers number) (sym (numbers_lowered from out)) one)
    ]

-- what isn't due
pub looked_lowered : {P : Type 0} (keys : Trees) (key_slots : KeySlotsValue P) (out more : List (JobOut P)) (from : ℕ) (numbers : List (Option ℕ)) (count : ℕ)
    → more ≡ map (lowered from) out → AreNotDue keys key_slots out numbers count → AreNotDue keys key_slots more numbers count
looked_lowered keys key_slots out more from numbers count is are =
    subst (λ jobs. AreNotDue keys key_slots jobs numbers count) (sym is)
    (none_before keys key_slots (map (lowered from) out) numbers count are.0
    (λ at number below there due. not_there keys key_slots out numbers count are at number below there (record {
      awaited = due.awaited;
      free = λ among. due.free (subst (λ numbers. Contains numbers number) (sym (numbers_lowered from out)) among);
      key = due.key;
      tree = due.tree;
      ready = due.ready;
    })))

-- what stands at a place in front of another stays where what comes after that one changes
pub got_front : {X : Type 0} (at from : ℕ) (xs ys : List X) (x : X) → at < from → from ≤ length xs
    → slice_get (take from xs ++ ys) at ≡ Some x → slice_get xs at ≡ Some x
got_front at zero xs ys x below within is = absurd (omega (arith, below))
got_front at (suc from) [] ys x below within is = absurd (omega (arith, within))
got_front zero (suc from) (first ∷ xs) ys x below within is = is
got_front (suc at) (suc from) (first ∷ xs) ys x below within is =
    got_front at from xs ys x (omega (arith, below)) (omega (arith, within)) is

-- no unit before a job's place has its key
pub behind_lowered : {P : Type 0} (numbers later : List (Option ℕ)) (out more : List (JobOut P)) (from : ℕ) → from ≤ length numbers
    → more ≡ map (lowered from) out → All (IsBehind numbers) out → All (IsBehind (take from numbers ++ later)) more
behind_lowered {P = P} numbers later out more from within is behind =
    subst (All (IsBehind (take from numbers ++ later))) (sym is)
    (All-map (IsBehind (take from numbers ++ later)) (lowered from) out (All-from_contains out each))
  where
    each : (job : JobOut P) → Contains out job → IsBehind (take from numbers ++ later) (lowered from job)
    each job among = λ at below there.
        All-contains (IsBehind numbers) out job behind among at (omega (arith, below))
        (got_front at from numbers later (Some job.key) (omega (arith, below)) within there)

-- where a place waits for a picture, it waited before
awaited_before : {P : Type 0} (place : Option (Option P)) (other : Option P) → held_or place other ≡ None → IsSome place
    → place ≡ Some None
awaited_before None other none some = absurd cc
awaited_before (Some None) other none some = refl
awaited_before (Some (Some picture)) other none some = absurd cc

-- a key is ready where those of its entries that are held now were held
ready_before : (held more : List Key) (tree : Key) → ((first : Key) → IsEntryOf first tree → Contains more first → Contains held first)
    → IsReady more tree → IsReady held tree
ready_before held more (Bare bodies) each ready = tt
ready_before held more (Gap rest) each ready = ready_before held more rest each ready
ready_before held more (With first rest) each ready = (
  each first (inl refl) ready.0,
  ready_before held more rest (λ other among. each other (inr among)) ready.1,
)

inner : {P : Type 0} (place : Option (Option P)) (shown : Option P) → place ≡ Some None → place ≡ Some shown → shown ≡ None
inner place shown none some = cc

unplaced : {P : Type 0} (place : Option (Option P)) → place ≡ None → place ≡ Some None → ⊥
unplaced place none some = cc

module _ {P : Type 0} {IsDecoded : InputValue P → P → Type 0} {IsOf : Key → P → Type 0} (keys : Trees) (ids : List ℕ) (outcomes : List Outcome) (numbers : List (Option ℕ)) (key_slots : KeySlotsValue P)
    (cached : List (ℕ × P)) (out : List (JobOut P)) (kept : IsSound IsDecoded IsOf keys ids outcomes numbers key_slots cached out)
    (apart : (number : ℕ) → 0 < uses_at key_slots number → Contains (numbers_of cached) number → ⊥)
    (more_ids : List ℕ) (more_outcomes : List Outcome) (more_found : List (Option ℕ)) (more_places : KeySlotsValue P)
    (stand : AllStandFor keys more_found (keys_of (zip more_ids more_outcomes)))
    (placed : ArePlaced more_found key_slots cached more_places) (right : AreRight IsDecoded IsOf keys more_places) where
  -- a key in use whose picture is held now was held
  held_still : (number : ℕ) → Contains numbers (Some number) → (picture : P) → place_at more_places number ≡ Some (Some picture)
      → place_at key_slots number ≡ Some (Some picture)
  held_still number used picture is =
      elim (held_before keys ids outcomes numbers key_slots cached out kept more_ids more_outcomes more_found more_places stand placed
      number picture is) [
        | inl held ↦ held
        | inr stored ↦
            absurd (apart number (used_some key_slots number ((kept.used number).1 used))
            (among_map (λ (pair : ℕ × P). pair.0) cached (number, picture) stored))
      ]

  -- a unit that is due now was due
  due_still : (at number : ℕ) → slice_get numbers at ≡ Some (Some number) → IsDueNumber keys more_places out number
      → IsDueNumber keys key_slots out number
  due_still at number is due = record {
    awaited = elim (placed number) [
      | inl used ↦
          awaited_before (place_at key_slots number) _ (inner (place_at more_places number) (carried key_slots cached number) due.awaited used.1)
          ((kept.used number).1 (got_among numbers at (Some number) is))
      | inr unused ↦ absurd (unplaced (place_at more_places number) unused.1 due.awaited)
    ];
    free = due.free;
    key = due.key;
    tree = due.tree;
    ready = ready_before (keys_for keys (numbers_held key_slots)) (keys_for keys (numbers_held more_places)) due.key each due.ready;
  }
    where
      each : (first : Key) → IsEntryOf first due.key → Contains (keys_for keys (numbers_held more_places)) first
          → Contains (keys_for keys (numbers_held key_slots)) first
      each first among held_now =
          let before = entry_before keys ids outcomes numbers kept.stand at number due.key first is due.tree among in
          let held = key_held keys more_places right before.2 first before.4 held_now in
          held_key keys key_slots kept.right before.2 first before.4
          (held.0, held_still before.2 (got_among numbers before.0 (Some before.2) before.3) held.0 held.1)

  -- of the units in front of a place none is due then
  pub looked_front : (later : List (Option ℕ)) (count from less : ℕ) → less ≤ count → less ≤ from → from ≤ length numbers
      → AreNotDue keys key_slots out numbers count → AreNotDue keys more_places out (take from numbers ++ later) less
  looked_front later count from less in_count in_front within are =
      none_before keys more_places out (take from numbers ++ later) less
      (omega (arith, in_front, within, length-append (take from numbers) later, length-take-le from numbers within))
      (λ at number below there due.
      let is = got_front at from numbers later (Some number) (omega (arith, below, in_front)) within there in
      not_there keys key_slots out numbers count are at number (omega (arith, below, in_count)) is (due_still at number is due))
