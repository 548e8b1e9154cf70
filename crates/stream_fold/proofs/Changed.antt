-- A stream after a change: what is in front of it and what is behind.
use Rattle.std.proofs.Common.{◌≡◌, ◌⊎◌, ℕ, ◌+◌, ◌-◌, ◌<◌, ◌≤◌, ◌++◌, length, take, drop, refl, ap, ◌∙◌, arith, inl, inr, append_assoc, length-append, length-drop}
use Rattle.std.proofs.lemmas.Bool.{cases_lt, lt-ltb, le-ltb}
use Rattle.std.proofs.lemmas.List.{length-take-le, drop-drop}
use Rattle.checkpoints.specs.declared.shifting.LengthChange.{LengthChange}
use Rattle.checkpoints.specs.declared.shifting.LengthChange.TheVariants.{Longer, Shorter}
use Rattle.checkpoints.specs.Changes.{changed}
use Rattle.request_core.specs.Agreement.{Stream}
use Rattle.stream_edits.specs.declared.changes.Change.{Change}
use Rattle.stream_edits.specs.Changes.{IsInside, at_of, units_of, rest_from, stream_after}
use Rattle.stream_fold.specs.Changes.{brought_to, change_between, place_after}
use Rattle.stream_fold.proofs.Fronts.{take_front, take_past, drop_past}

pub at_inside : (change : Change) (stream : Stream) → IsInside change stream → at_of change ≤ length stream
at_inside change stream inside = omega (arith, inside.ordered, inside.within)

pub rest_inside : (change : Change) (stream : Stream) → IsInside change stream → rest_from change ≤ length stream
rest_inside change stream inside = inside.within

pub at_rest : (change : Change) (stream : Stream) → IsInside change stream → at_of change ≤ rest_from change
at_rest change stream inside = inside.ordered

-- an end moves up or down
pub moves : (old new : ℕ) → ((new < old) × (change_between old new ≡ Shorter (old - new))) ⊎ ((old ≤ new) × (change_between old new ≡ Longer (new - old)))
moves old new = elim (cases_lt new old) [
  | inl less ↦ inl (less, rw (lt-ltb new old less) refl)
  | inr le ↦ inr (le, rw (le-ltb new old le) refl)
]

-- a place behind the change is as far behind as before
pub place_is : (change : Change) (place : ℕ) → rest_from change ≤ place
    → place_after change place ≡ at_of change + length (units_of change) + (place - rest_from change)
place_is change place le = elim (moves (rest_from change) (brought_to change)) [
  | inl down ↦ ap (λ (by : LengthChange). changed by place) down.1 ∙ omega (arith, down.0, le)
  | inr up ↦ ap (λ (by : LengthChange). changed by place) up.1 ∙ omega (arith, up.0, le)
]

-- in front of the change, what it brings, and behind it
pub split_after : (change : Change) (stream : Stream) → IsInside change stream
    → stream_after change stream ≡ take (at_of change) stream ++ (units_of change ++ drop (rest_from change) stream)
split_after change stream inside = append_assoc (take (at_of change) stream) (units_of change) (drop (rest_from change) stream)

module _ (change : Change) (stream : Stream) (inside : IsInside change stream) where
  abbrev after : Stream
  after = stream_after change stream

  front_is : length (take (at_of change) stream) ≡ at_of change
  front_is = length-take-le (at_of change) stream (at_inside change stream inside)

  -- in front of the change nothing is changed
  pub take_before : (place : ℕ) → place ≤ at_of change → take place after ≡ take place stream
  take_before place le =
      rw (split_after change stream inside)
      (take_front place (at_of change) stream (units_of change ++ drop (rest_from change) stream) le (at_inside change stream inside))

  past : (place : ℕ) → rest_from change ≤ place
      → place_after change place ≡ length (take (at_of change) stream) + length (units_of change) + (place - rest_from change)
  past place le = omega (arith, front_is, place_is change place le)

  -- up to a place behind it
  pub take_behind : (place : ℕ) → rest_from change ≤ place
      → take (place_after change place) after
      ≡ take (at_of change) stream ++ (units_of change ++ take (place - rest_from change) (drop (rest_from change) stream))
  take_behind place le =
      rw (split_after change stream inside)
      (take_past (take (at_of change) stream) (units_of change) (drop (rest_from change) stream) (place_after change place)
      (place - rest_from change) (past place le))

  -- and from there on
  pub drop_behind : (place : ℕ) → rest_from change ≤ place → drop (place_after change place) after ≡ drop place stream
  drop_behind place le =
      let whole : rest_from change + (place - rest_from change) ≡ place = omega (arith, le) in
      rw (split_after change stream inside)
      (drop_past (take (at_of change) stream) (units_of change) (drop (rest_from change) stream) (place_after change place)
      (place - rest_from change) (past place le)
      ∙ (drop-drop (place - rest_from change) (rest_from change) stream
      ∙ ap (λ (n : ℕ). drop n stream) whole))

  -- the length
  pub length_after : length after ≡ place_after change (length stream)
  length_after =
      let rest : rest_from change ≤ length stream = rest_inside change stream inside in
      rw (split_after change stream inside)
      (omega (
        arith,
        front_is,
        place_is change (length stream) rest,
        length-drop (rest_from change) stream,
        rest,
        length-append (take (at_of change) stream) (units_of change ++ drop (rest_from change) stream),
        length-append (units_of change) (drop (rest_from change) stream),
      ))

  -- places behind the change keep their order and their distances
  pub apart_after : (place other : ℕ) → rest_from change ≤ place → place ≤ other
      → place_after change other ≡ place_after change place + (other - place)
  apart_after place other le more =
      let second : rest_from change ≤ other = omega (arith, le, more) in
      omega (arith, place_is change place le, place_is change other second, le, more)
