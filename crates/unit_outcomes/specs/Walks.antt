-- What a walk over units keeps of those that it went over.
use Rattle.std.specs.Prelude.{◌≡◌, ◌⊎◌, ℕ, ◌<◌, ◌≤◌, ◌==◌, ◌&&◌, ◌||◌, Bool, true, false, not, List, Option, None, Some, IsSome, is_some, MatchBool, MatchOption, if◌then◌else◌}
use Rattle.std.specs.List.{list_all}
use Rattle.h264_controls.specs.declared.request.Request.{Request}
use Rattle.unit_outcomes.specs.declared.outcome.Outcome.{Outcome}
use Rattle.unit_outcomes.specs.declared.outcome.Outcome.TheVariants.{Plan, Fault, Empty}
use Rattle.unit_outcomes.specs.SeenUnits.{BreaksAt, HasId, IsIdrAt, SeenUnit, is_idr_picture}
use Rattle.unit_outcomes.specs.Entries.{named_unit}
use Rattle.unit_outcomes.specs.InDoubt.{InDoubt}
use Rattle.unit_outcomes.specs.Sets.{has}
use Rattle.unit_outcomes.specs.declared.doubts.walk.Doubt.{Doubt}
use Rattle.unit_outcomes.specs.declared.doubts.walk.DoubtWalk.{DoubtWalk}

-- a break before a place, behind which no valid IDR picture stands before that place
pub record LastsBefore (units : List SeenUnit) (broken at : ℕ) : Type 0 where
  pub before : broken < at
  pub breaks : BreaksAt units broken
  pub no_idr : (place : ℕ) → broken < place → place < at → IsIdrAt units place → ⊥

-- the first of them
pub record IsFirstBefore (units : List SeenUnit) (at broken : ℕ) : Type 0 where
  pub lasts : LastsBefore units broken at
  pub first : (other : ℕ) → LastsBefore units other at → broken ≤ other

-- the id is that of the first of them; none where there is none
abbrev pub HasFirst : List SeenUnit → ℕ → Option ℕ → Type 0
HasFirst units at first = MatchOption first
    ((broken : ℕ) → LastsBefore units broken at → ⊥)
    (λ id. (broken : ℕ) × IsFirstBefore units at broken × HasId units broken id)

-- seen from a place, a unit isn't in doubt and has no break behind it
pub record IsSound (units : List SeenUnit) (at other : ℕ) : Type 0 where
  pub no_doubt : InDoubt units other → ⊥
  pub no_break : (broken : ℕ) → other < broken → broken < at → BreaksAt units broken → ⊥

-- seen from a place, a break stands behind a unit
pub record HasBreakBehind (units : List SeenUnit) (at other : ℕ) : Type 0 where
  pub broken : ℕ
  pub behind : other < broken
  pub before : broken < at
  pub breaks : BreaksAt units broken

-- no valid IDR picture stands between a unit and a place
abbrev pub HasNoIdrBehind : List SeenUnit → ℕ → ℕ → Type 0
HasNoIdrBehind units at other = (place : ℕ) → other < place → place < at → IsIdrAt units place → ⊥

-- the ids are those of the units that are sound, of those behind the last valid IDR picture
abbrev pub TellsSound : List SeenUnit → ℕ → (ℕ → Bool) → Type 0
TellsSound units at sound = (other id : ℕ) → HasId units other id → other < at → HasNoIdrBehind units at other
    → MatchBool (sound id) (IsSound units at other) (InDoubt units other ⊎ HasBreakBehind units at other)

-- seen from a place, a unit has the id, of those behind the last valid IDR picture
pub record IsSeen (units : List SeenUnit) (at id : ℕ) : Type 0 where
  pub other : ℕ
  pub before : other < at
  pub has_id : HasId units other id
  pub no_idr : HasNoIdrBehind units at other

-- what is kept before the unit at a place, which forgets it where it is a valid IDR picture
pub record Keeps (units : List SeenUnit) (at : ℕ) (first : Option ℕ) (sound : ℕ → Bool) : Type 0 where
  pub first_is : (IsIdrAt units at → ⊥) → HasFirst units at first
  pub sound_are : (IsIdrAt units at → ⊥) → IsSome first → TellsSound units at sound
  pub only : (IsIdrAt units at → ⊥) → IsSome first → (id : ℕ) → sound id ≡ true → IsSeen units at id

-- the walk went over the units before a place
abbrev pub IsBefore : List SeenUnit → ℕ → DoubtWalk → Type 0
IsBefore units at walk = Keeps units at walk.first (has walk.sound)

-- an entry names a unit that is sound
abbrev pub is_sound : (ℕ → Bool) → Option ℕ → Bool
is_sound sound None = false
is_sound sound (Some id) = sound id

-- all entries of a list do
abbrev pub list_is_sound : (ℕ → Bool) → List ℕ → List (Option ℕ) → Bool
list_is_sound sound units entries = list_all (λ entry. is_sound sound (named_unit units entry)) entries

-- all entries of the lists of a slice do
abbrev pub slice_is_sound : (ℕ → Bool) → Request → Bool
slice_is_sound sound request =
    list_is_sound sound request.references request.body.controls.slice_params.ref_pic_list0
    && list_is_sound sound request.references request.body.controls.slice_params.ref_pic_list1

-- all entries of the lists of a unit do
abbrev pub names_sound : (ℕ → Bool) → Outcome → Bool
names_sound sound (Plan plan) = list_all (slice_is_sound sound) plan.requests
names_sound sound (Fault fault) = true
names_sound sound Empty = true

-- the break that is followed after those kept
abbrev pub followed : Option ℕ → Outcome → Option ℕ
followed first outcome = if is_idr_picture outcome then None else first

-- what is told of a unit after those kept
abbrev pub doubt_of : Option ℕ → (ℕ → Bool) → Outcome → Doubt
doubt_of first sound outcome = record {
  follows = followed first outcome;
  in_doubt = is_some (followed first outcome) && not (names_sound sound outcome);
}

-- the first break after a unit
abbrev pub first_after : ℕ → Bool → Option ℕ → Option ℕ
first_after id breaks None = if breaks then Some id else None
first_after id breaks (Some first) = Some first

-- the ids that are sound after a unit
abbrev pub sound_after : ℕ → Bool → Doubt → (ℕ → Bool) → ℕ → Bool
sound_after id breaks doubt sound other =
    (is_some (first_after id breaks doubt.follows) && not doubt.in_doubt && (id == other))
    || (not breaks && sound other)
