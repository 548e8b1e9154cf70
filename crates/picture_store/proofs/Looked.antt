-- Up to where no unit is due.
use Rattle.std.proofs.Common.{◌≡◌, refl, ap, sym, ◌∙◌, subst, ℕ, zero, suc, ◌<◌, ◌≤◌, max, List, [], ◌∷◌, ◌++◌, length, take, Option, None, Some, inl, inr, ◌⊎◌, slice_get, arith, rules}
use Rattle.std.specs.Prelude.{All, Contains, remove, slice_index_or}
use Rattle.std.specs.List.{zip}
use Rattle.std.proofs.lemmas.List.{map-append, take_all}
use Rattle.std.proofs.lemmas.List.Elements.{All-contains, All-get_or, All-push, Contains-append_left}
use Rattle.std.proofs.lemmas.Option.{none-some, same_Some}
use Rattle.unit_outcomes.specs.declared.outcome.Outcome.{Outcome}
use Rattle.decode_jobs.specs.Keys.{Key}
use Rattle.picture_keys.specs.Known.{keys_of}
use Rattle.picture_store.specs.declared.answers.Landing.{Landing}
use Rattle.picture_store.specs.declared.answers.Landing.TheVariants.{Taken, Stale, Foreign}
use Rattle.picture_store.specs.declared.job_out.JobOut.{JobOut}
use Rattle.held_pictures.specs.KeySlots.{AreSame, place_of}
use Rattle.held_pictures.proofs.Members.{here, there, nowhere, first_or_among, All-from_contains}
use Rattle.picture_store.specs.KeySlots.{KeySlotsValue}
use Rattle.picture_store.specs.Filling.{IsFilled}
use Rattle.picture_store.specs.Stored.{Trees, keys_for, numbers_out, IsJobRight, IsSound, KeepsStored}
use Rattle.picture_store.specs.Due.{IsDueNumber, IsNotDue}
use Rattle.picture_store.specs.Looked.{AreNotDue, IsBehind}
use Rattle.picture_store.specs.Settled.{AreSettled}
use Rattle.picture_store.specs.Stores.{IsReady}
use Rattle.picture_store.proofs.Earlier.{refers_later}
use Rattle.picture_store.proofs.Landed.{all_without}
use Rattle.picture_store.proofs.Scheduling.{due_given, due_or, due_stale}
use Rattle.picture_store.proofs.Settled.{none_due_before}
use Rattle.picture_store.proofs.Stays.{held_stay, stand_live}
use Rattle.picture_store.proofs.Waiting.{got_among}
use Rattle.decode_jobs.specs.Inputs.{InputValue}

-- what stands at a place is among the first items of a list, where the place is
pub taken_there : {X : Type 0} (xs : List X) (count at : ℕ) (x : X) → at < count → slice_get xs at ≡ Some x
    → Contains (take count xs) x
taken_there xs zero at x below is = absurd (omega (arith, below))
taken_there [] (suc count) at x below is = absurd (none-some x is)
taken_there (first ∷ xs) (suc count) zero x below is =
    subst (Contains (first ∷ take count xs)) (same_Some first x is) (here first (take count xs))
taken_there (first ∷ xs) (suc count) (suc at) x below is =
    there first x (take count xs) (taken_there xs count at x (omega (arith, below)) is)

-- and the other way round
pub there_taken : {X : Type 0} (xs : List X) (count : ℕ) (x : X) → Contains (take count xs) x
    → (at : ℕ) × (at < count) × (slice_get xs at ≡ Some x)
there_taken xs zero x among = absurd (nowhere x among)
there_taken [] (suc count) x among = absurd (nowhere x among)
there_taken (first ∷ xs) (suc count) x among =
    elim (first_or_among first x (take count xs) among) [
      | inl same ↦ (zero, omega arith, ap Some same)
      | inr later ↦
          let rest = there_taken xs count x later in
          (suc rest.0, omega (arith, rest.1), rest.2)
    ]

module _ {P : Type 0} (keys : Trees) (key_slots : KeySlotsValue P) (out : List (JobOut P)) (numbers : List (Option ℕ)) where
  -- a unit before a place before which none is due isn't
  pub not_there : (count : ℕ) → AreNotDue keys key_slots out numbers count → (at number : ℕ) → at < count
      → slice_get numbers at ≡ Some (Some number) → IsDueNumber keys key_slots out number → ⊥
  not_there count are at number below is =
      All-contains (IsNotDue keys key_slots out) (take count numbers) (Some number) are.1
      (taken_there numbers count at (Some number) below is)

  -- where none of so many units is due, none is due before there
  pub none_before : (count : ℕ) → count ≤ length numbers
      → ((at number : ℕ) → at < count → slice_get numbers at ≡ Some (Some number) → IsDueNumber keys key_slots out number → ⊥)
      → AreNotDue keys key_slots out numbers count
  none_before count within none = (within, All-from_contains (take count numbers) each)
    where
      each : (number : Option ℕ) → Contains (take count numbers) number → IsNotDue keys key_slots out number
      each None among = search rules
      each (Some number) among =
          let is = there_taken numbers count (Some number) among in
          none is.0 number is.1 is.2

  -- none is due before the first unit
  pub none_looked : AreNotDue keys key_slots out numbers 0
  none_looked = (omega arith, λ k d within. absurd (omega (arith, within)))

  -- nor is one of fewer units
  pub fewer_looked : (count less : ℕ) → less ≤ count → AreNotDue keys key_slots out numbers count → AreNotDue keys key_slots out numbers less
  fewer_looked count less below are =
      none_before less (omega (arith, below, are.0))
      (λ at number under. not_there count are at number (omega (arith, under, below)))

  -- nor one of all units, where none is
  pub all_looked : (count : ℕ) → count ≡ length numbers → All (IsNotDue keys key_slots out) numbers
      → AreNotDue keys key_slots out numbers count
  all_looked count is none =
      none_before count (omega (arith, is))
      (λ at number below there. All-contains (IsNotDue keys key_slots out) numbers (Some number) none (among at number below there))
    where
      among : (at number : ℕ) → at < count → slice_get numbers at ≡ Some (Some number) → Contains numbers (Some number)
      among at number below there =
          subst (λ xs. Contains xs (Some number)) (take_all count numbers (omega (arith, is)))
          (taken_there numbers count at (Some number) below there)

  -- nor before the later of two places before which none is
  pub later_looked : (settled searched from : ℕ) → from ≡ max settled searched → AreSettled key_slots out numbers settled
      → AreNotDue keys key_slots out numbers searched → AreNotDue keys key_slots out numbers from
  later_looked settled searched from is are not =
      none_before from (omega (arith, is, are.0, not.0)) each
    where
      first : AreNotDue keys key_slots out numbers settled
      first = (are.0, none_due_before keys key_slots out numbers settled are)

      by_place : (at number : ℕ) → (at < settled) ⊎ (at < searched) → slice_get numbers at ≡ Some (Some number)
          → IsDueNumber keys key_slots out number → ⊥
      by_place at number (inl below) there = not_there settled first at number below there
      by_place at number (inr below) there = not_there searched not at number below there

      either : (at a b : ℕ) → at < max a b → (at < a) ⊎ (at < b)
      either at zero b below = inr (omega (arith, below))
      either at (suc a) zero below = inl (omega (arith, below))
      either zero (suc a) (suc b) below = inl (omega arith)
      either (suc at) (suc a) (suc b) below = elim (either at a b (omega (arith, below))) [
        | inl one ↦ inl (omega (arith, one))
        | inr other ↦ inr (omega (arith, other))
      ]

      each : (at number : ℕ) → at < from → slice_get numbers at ≡ Some (Some number) → IsDueNumber keys key_slots out number → ⊥
      each at number below = by_place at number (either at settled searched (omega (arith, below, is)))

  -- a key that is due is that of no unit before a place before which none is
  pub behind_given : (count : ℕ) → AreNotDue keys key_slots out numbers count → (job : JobOut P) → job.first_place ≡ count
      → IsDueNumber keys key_slots out job.key → IsBehind numbers job
  behind_given count are job from due =
      λ at below is. not_there count are at job.key (omega (arith, below, from)) is due

  -- so each job is behind its place where one is given
  pub behind_more : (count : ℕ) → AreNotDue keys key_slots out numbers count → (job : JobOut P) (more : List (JobOut P))
      → more ≡ out ++ job ∷ [] → job.first_place ≡ count → IsDueNumber keys key_slots out job.key → All (IsBehind numbers) out
      → All (IsBehind numbers) more
  behind_more count are job more is from due behind =
      subst (All (IsBehind numbers)) (sym is) (All-push (IsBehind numbers) out job behind (behind_given count are job from due))

-- nor is one of them due where a job more is out
pub looked_more : {P : Type 0} (keys : Trees) (key_slots : KeySlotsValue P) (out : List (JobOut P)) (numbers : List (Option ℕ)) (job : JobOut P)
    (more : List (JobOut P)) → more ≡ out ++ job ∷ [] → (count : ℕ) → AreNotDue keys key_slots out numbers count
    → AreNotDue keys key_slots more numbers count
looked_more {P = P} keys key_slots out numbers job more is count are =
    none_before keys key_slots more numbers count are.0
    (λ at number below there due.
    not_there keys key_slots out numbers count are at number below there (due_given keys key_slots out more stay number due))
  where
    stay : (number : ℕ) → Contains (numbers_out out) number → Contains (numbers_out more) number
    stay number among =
        subst (λ jobs. Contains (numbers_out jobs) number) (sym is)
        (subst (λ numbers. Contains numbers number) (sym (map-append (λ (j : JobOut P). j.key) out (job ∷ [])))
        (Contains-append_left (numbers_out out) (numbers_out (job ∷ [])) number among))

-- what isn't due where the keys that are stored stay
module _ {P : Type 0} {IsDecoded : InputValue P → P → Type 0} {IsOf : Key → P → Type 0} (keys more : Trees) (ids : List ℕ) (outcomes : List Outcome) (numbers : List (Option ℕ)) (key_slots : KeySlotsValue P)
    (cached : List (ℕ × P)) (out : List (JobOut P)) (kept : IsSound IsDecoded IsOf keys ids outcomes numbers key_slots cached out)
    (stay : KeepsStored numbers cached out keys more) where
  due_stays : (number : ℕ) → Contains numbers (Some number) → IsDueNumber more key_slots out number → IsDueNumber keys key_slots out number
  due_stays number among due =
      let live = stand_live keys numbers (keys_of (zip ids outcomes)) kept.stand number among in
      let same : due.key ≡ live.0 = same_Some due.key live.0 (sym due.tree ∙ stay number live.0 (inl among) live.1) in
      record {
        awaited = due.awaited;
        free = due.free;
        key = due.key;
        tree = live.1 ∙ ap (λ (k : Key). Some k) (sym same);
        ready =
            subst (λ held. IsReady held due.key) (held_stay keys more ids outcomes numbers key_slots cached out kept stay) due.ready;
      }

  pub looked_stays : (count : ℕ) → AreNotDue keys key_slots out numbers count → AreNotDue more key_slots out numbers count
  looked_stays count are =
      none_before more key_slots out numbers count are.0
      (λ at number below is due. not_there keys key_slots out numbers count are at number below is (due_stays number (got_among numbers at (Some number) is) due))

-- what isn't due where the slots of keys are the same
module _ {P : Type 0} (key_slots grown : KeySlotsValue P) (same : AreSame key_slots grown) where
  pub looked_same : (keys : Trees) (out : List (JobOut P)) (numbers : List (Option ℕ)) (count : ℕ) → AreNotDue keys key_slots out numbers count
      → AreNotDue keys grown out numbers count
  looked_same keys out numbers count are =
      none_before keys grown out numbers count are.0
      (λ at number below is due. not_there keys key_slots out numbers count are at number below is (record {
        awaited = sym (ap place_of (same.slots number)) ∙ due.awaited;
        free = due.free;
        key = due.key;
        tree = due.tree;
        ready = subst (λ held. IsReady (keys_for keys held) due.key) same.held due.ready;
      }))

module _ {P : Type 0} {IsDecoded : InputValue P → P → Type 0} {IsOf : Key → P → Type 0} (keys : Trees) (ids : List ℕ) (outcomes : List Outcome) (numbers : List (Option ℕ)) (key_slots : KeySlotsValue P)
    (cached : List (ℕ × P)) (out : List (JobOut P)) (kept : IsSound IsDecoded IsOf keys ids outcomes numbers key_slots cached out) where
  -- where a result lands, units become due that refer to its key; they stand behind its job's place
  module _ (at : ℕ) (within : at < length out) (other : JobOut P) (stands : other ≡ slice_index_or out at other) where
    right : IsJobRight IsDecoded IsOf keys other
    right =
        subst (IsJobRight IsDecoded IsOf keys) (sym stands) (All-get_or (IsJobRight IsDecoded IsOf keys) out at other within kept.jobs)

    behind : All (IsBehind numbers) out → IsBehind numbers other
    behind all = subst (IsBehind numbers) (sym stands) (All-get_or (IsBehind numbers) out at other within all)

    pub looked_landed : (picture : P) (landing : Landing) (more : KeySlotsValue P) (left : List (JobOut P)) (count less : ℕ)
        → left ≡ remove out at → IsFilled key_slots other.key picture landing more → less ≤ count
        → (landing ≡ Taken → less ≤ other.first_place) → All (IsBehind numbers) out
        → AreNotDue keys key_slots out numbers count → AreNotDue keys more left numbers less
    looked_landed picture Foreign more left count less gone filled below front all are = absurd filled
    looked_landed picture Stale more left count less gone filled below front all are =
        subst (λ jobs. AreNotDue keys more jobs numbers less) (sym gone)
        (subst (λ p. AreNotDue keys p (remove out at) numbers less) (sym filled.1)
        (none_before keys key_slots (remove out at) numbers less (omega (arith, below, are.0))
        (λ place number under is due. not_there keys key_slots out numbers count are place number (omega (arith, under, below)) is
        (due_stale keys key_slots out at other stands filled.0 number due))))
    looked_landed picture Taken more left count less gone filled below front all are =
        subst (λ jobs. AreNotDue keys more jobs numbers less) (sym gone)
        (none_before keys more (remove out at) numbers less (omega (arith, below, are.0)) none)
      where
        none : (place number : ℕ) → place < less → slice_get numbers place ≡ Some (Some number)
            → IsDueNumber keys more (remove out at) number → ⊥
        none place number under is due =
            elim (due_or keys ids outcomes numbers key_slots cached out kept at other stands picture more filled.0 filled.1 right.0
            right.1 place (number, is, due)) [
              | inl was ↦
                  not_there keys key_slots out numbers count are place was.0 (omega (arith, under, below)) was.1 was.2
              | inr refers ↦
                  let before = refers_later keys ids outcomes numbers kept.stand kept.right.one place other.key refers in
                  behind all before.0 (omega (arith, before.1, under, front refl)) before.2
            ]

    pub behind_left : (left : List (JobOut P)) → left ≡ remove out at → All (IsBehind numbers) out → All (IsBehind numbers) left
    behind_left left gone all = subst (All (IsBehind numbers)) (sym gone) (all_without (IsBehind numbers) out at all)
