-- What is kept of the units that one unit needs, for calls that follow one another.
use Rattle.std.specs.Prelude.{◌≡◌, ℕ, ◌≤◌, List, ◌⊎◌, Contains, Option, None, Some, IfSome, slice_get}
use Rattle.std.specs.BinaryHeap.{IsHeap, heap_items}
use Rattle.std.specs.List.Sorted.{IsNonDecreasingBy}
use Rattle.std.specs.Ordering.{nat_cmp}
use Rattle.std.specs.declared.cmp.Reverse.{Reverse}
use Rattle.unit_outcomes.specs.declared.outcome.Outcome.{Outcome}
use Rattle.decode_jobs.specs.KeyMaps.{tree_at}
use Rattle.decode_jobs.specs.Trees.Tree.{Bare, Gap, With}
use Rattle.held_pictures.specs.Held.{IsHeld, IsWaiting}
use Rattle.held_pictures.specs.Needed.{IsNeeded}
use Rattle.decode_jobs.specs.Keys.{Key}
use Rattle.picture_store.specs.declared.answers.Landing.{Landing}
use Rattle.picture_store.specs.declared.answers.Landing.TheVariants.{Taken, Stale, Foreign}
use Rattle.picture_store.specs.declared.job_out.JobOut.{JobOut}
use Rattle.picture_store.specs.declared.schedule.Dependent.{Dependent}
use Rattle.picture_store.specs.declared.schedule.Schedule.{Schedule}
use Rattle.picture_store.specs.Due.{IsDueNumber, IsDueThere}
use Rattle.picture_store.specs.Stored.{Trees}
use Rattle.picture_store.specs.KeySlots.{KeySlotsValue}

-- a key stands at an entry of another
abbrev pub IsEntryOf : Key → Key → Type 0
IsEntryOf first (Bare bodies) = ⊥
IsEntryOf first (Gap rest) = IsEntryOf first rest
IsEntryOf first (With own rest) = (own ≡ first) ⊎ IsEntryOf first rest

-- the key of the unit at a place refers to that of a number: it has that at an entry
pub record RefersTo (keys : Trees) (numbers : List (Option ℕ)) (at entry : ℕ) : Type 0 where
  pub number : ℕ
  pub stands : slice_get numbers at ≡ Some (Some number)
  pub tree : Key
  pub tree_is : tree_at keys number ≡ Some tree
  pub first : Key
  pub first_is : tree_at keys entry ≡ Some first
  pub among : IsEntryOf first tree

-- the unit at a place is listed as one that waits for the key of a number
abbrev pub WaitsFor : List Dependent → ℕ → ℕ → Type 0
WaitsFor dependents at entry = Contains dependents (record { entry = entry; at = at })

-- dependents stand by rising numbers of the keys that they wait for
abbrev pub AreByEntry : List Dependent → Type 0
AreByEntry dependents = IsNonDecreasingBy (λ dependent. dependent.entry) dependents

-- a queue in a heap with the earliest place on top
abbrev pub IsQueue : List (Reverse ℕ) → Type 0
IsQueue queue = IsHeap (λ x y. nat_cmp y.0 x.0) queue

-- the place is in the queue
abbrev pub IsQueued : List (Reverse ℕ) → ℕ → Type 0
IsQueued queue at = Contains queue (record { 0 = at })

module _ {P : Type 0} where
  -- of the places in a queue this is the earliest whose unit's key is due, and that is its number
  pub record IsEarliestDue (keys : Trees) (key_slots : KeySlotsValue P) (out : List (JobOut P)) (numbers : List (Option ℕ))
      (queue : List (Reverse ℕ)) (at number : ℕ) : Type 0 where
    pub queued : IsQueued queue at
    pub number_is : slice_get numbers at ≡ Some (Some number)
    pub due : IsDueNumber keys key_slots out number
    pub earliest : (place : ℕ) → IsQueued queue place → IsDueThere keys key_slots out numbers place → at ≤ place

  -- the unit at a place is a needed one of that at the target, by what is found and held
  abbrev pub IsNeededHere : List (ℕ × Outcome) → List (Option ℕ) → KeySlotsValue P → ℕ → ℕ → Type 0
  IsNeededHere units numbers key_slots target at = IsNeeded units (IsWaiting numbers key_slots) target at

  -- the needed units of a target are scheduled: each that is due is in the queue, and each is listed
  -- as one that waits for the keys to which it refers and whose pictures aren't held; what stands in
  -- either is needed as long as it waits
  pub record AreScheduled (keys : Trees) (units : List (ℕ × Outcome)) (numbers : List (Option ℕ)) (key_slots : KeySlotsValue P)
      (out : List (JobOut P)) (target : ℕ) (dependents : List Dependent) (queue : List (Reverse ℕ)) : Type 0 where
    pub by_entry : AreByEntry dependents
    pub ordered : IsQueue queue
    pub due : (at : ℕ) → IsNeededHere units numbers key_slots target at → IsDueThere keys key_slots out numbers at
        → IsQueued queue at
    pub queued : (at : ℕ) → IsQueued queue at → IsWaiting numbers key_slots at → IsNeededHere units numbers key_slots target at
    pub listed : (at entry : ℕ) → IsNeededHere units numbers key_slots target at → RefersTo keys numbers at entry
        → (IsHeld key_slots entry → ⊥) → WaitsFor dependents at entry
    pub those : (at entry : ℕ) → WaitsFor dependents at entry → IsWaiting numbers key_slots at
        → IsNeededHere units numbers key_slots target at

  -- what is kept of a target, if anything is, is its schedule
  abbrev pub IsScheduled : Trees → List (ℕ × Outcome) → List (Option ℕ) → KeySlotsValue P → List (JobOut P) → Option Schedule
      → Type 0
  IsScheduled keys units numbers key_slots out schedule =
      IfSome schedule (λ s. AreScheduled keys units numbers key_slots out s.target s.dependents.items (heap_items s.queue))

  -- to a queue come places, each of these if its unit is due
  pub record AddsDue (keys : Trees) (key_slots : KeySlotsValue P) (out : List (JobOut P)) (numbers : List (Option ℕ)) (Comes : ℕ → Type 0)
      (queue after : List (Reverse ℕ)) : Type 0 where
    pub ordered : IsQueue queue → IsQueue after
    pub stay : (at : ℕ) → IsQueued queue at → IsQueued after at
    pub only : (at : ℕ) → IsQueued after at → IsQueued queue at ⊎ Comes at
    pub all : (at : ℕ) → Comes at → IsDueThere keys key_slots out numbers at → IsQueued after at

  -- a schedule goes on where the picture of an entry is held: those of its dependents that are due
  -- come to its queue; or nothing stays of it
  abbrev pub GoesOn : Trees → KeySlotsValue P → List (JobOut P) → List (Option ℕ) → ℕ → Option Schedule → Option Schedule → Type 0
  GoesOn keys key_slots out numbers entry old None = Unit {0}
  GoesOn keys key_slots out numbers entry None (Some new) = ⊥
  GoesOn keys key_slots out numbers entry (Some old) (Some new) =
      (new.target ≡ old.target) × (new.dependents.items ≡ old.dependents.items)
      × AddsDue keys key_slots out numbers (λ at. WaitsFor old.dependents.items at entry) (heap_items old.queue)
      (heap_items new.queue)

  -- what stays where a result of an entry's key has landed: it goes on where the picture is held now;
  -- where nothing changes, it stays
  abbrev pub FollowsLanding : Trees → KeySlotsValue P → List (JobOut P) → List (Option ℕ) → ℕ → Landing → Option Schedule
      → Option Schedule → Type 0
  FollowsLanding keys key_slots out numbers entry Taken old new = GoesOn keys key_slots out numbers entry old new
  FollowsLanding keys key_slots out numbers entry Stale old new = new ≡ old
  FollowsLanding keys key_slots out numbers entry Foreign old new = new ≡ old
