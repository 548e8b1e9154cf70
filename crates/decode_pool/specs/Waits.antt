-- Waits for the pictures of a desk.
use Rattle.std.specs.Prelude.{◌≡◌, ℕ, ◌<◌, ◌≤◌, slice_get, Option, None, Some, Result, Ok, Err}
use Rattle.decode_jobs.specs.Keys.{Key}
use Rattle.stream_edits.specs.declared.receipts.Last.{Last}
use Rattle.stream_edits.specs.Edits.{Replays}
use Rattle.stream_edits.specs.Journals.{edits_of}
use Rattle.stream_edits.specs.Streams.{ids_of, last_of}
use Rattle.stream_session.specs.declared.showing.Shown.TheVariants as shown
use Rattle.stream_session.specs.Machines.{Machine}
use Rattle.stream_session.specs.Showing.{Shows}
use Rattle.worker_jobs.specs.Rests.{IsAtRest, IsSettled, MayNotRest}
use Rattle.worker_jobs.specs.Wanted.{Wants}
use Rattle.decode_pool.specs.declared.status.DeskStatus.{DeskStatus}
use Rattle.decode_pool.specs.declared.state.settling.Settled.{Settled}
use Rattle.decode_pool.specs.declared.state.settling.Settled.TheVariants as settled

module _ {P : Type 0} where
  -- the session's stream is what its journal leads to from what it began from
  abbrev pub IsReached : Machine P → Type 0
  IsReached machine = Replays machine.origin (edits_of machine.journal) machine.register

-- the end of the stream of a session, which no clause can name
abbrev pub IsLastOfOne : Type 0 → Last → Type 0
IsLastOfOne P last = (machine : Machine P) × IsReached machine × (last ≡ last_of machine.register.stream)

module _ {P : Type 0} (IsOf : Key → P → Type 0) where
  -- no unit is pending from the place on
  abbrev pub AreSettledFrom : Machine P → ℕ → Type 0
  AreSettledFrom machine from =
      (at id : ℕ) → from ≤ at → slice_get (ids_of machine.register.stream) at ≡ Some id → IsSettled IsOf machine id

  -- the unit at the place is pending
  abbrev pub IsPendingAt : Machine P → ℕ → Type 0
  IsPendingAt machine at =
      (id : ℕ) × (slice_get (ids_of machine.register.stream) at ≡ Some id) × Shows IsOf machine id shown.Pending

  -- some unit is pending
  abbrev pub IsSomePending : Machine P → Type 0
  IsSomePending machine = (at : ℕ) × IsPendingAt machine at

  -- no unit is pending, or one is, or all that is wanted is done, of a session and of what is wanted
  -- of it, which no clause can name
  abbrev pub WaitsForOne : Settled → Type 0
  WaitsForOne settled.Done = (machine : Machine P) × IsReached machine × AreSettledFrom machine 0
  WaitsForOne settled.Idle = (machine : Machine P) × IsReached machine × IsSomePending machine
  WaitsForOne settled.Rested =
      (machine : Machine P) × IsReached machine × IsSomePending machine × ((wants : Wants) × IsAtRest IsOf machine wants)

  -- how a wait for the pictures of a session ends, of which so much is wanted and so many workers of
  -- so many have ended: no unit is pending; or one is, but all that is wanted is done; or that isn't
  -- so and no worker is left. It goes on while a unit is pending, something that is wanted may not be
  -- done, and a worker is left
  abbrev pub IsSettledBy : Machine P → DeskStatus → ℕ → Result Settled ℕ → Type 0
  IsSettledBy machine status workers (Ok settled.Done) = AreSettledFrom machine 0
  IsSettledBy machine status workers (Ok settled.Rested) = IsSomePending machine × IsAtRest IsOf machine status.wanted
  IsSettledBy machine status workers (Ok settled.Idle) =
      IsSomePending machine × MayNotRest IsOf machine status.wanted × (workers ≤ status.ended)
  IsSettledBy machine status workers (Err at) =
      IsPendingAt machine at × MayNotRest IsOf machine status.wanted × (status.ended < workers)

  -- the unit of the id isn't pending, or it is, of a session that no clause can name
  abbrev pub WaitsForUnit : ℕ → Settled → Type 0
  WaitsForUnit id settled.Done = (machine : Machine P) × IsReached machine × IsSettled IsOf machine id
  WaitsForUnit id settled.Idle = (machine : Machine P) × IsReached machine × Shows IsOf machine id shown.Pending
  WaitsForUnit id settled.Rested = ⊥

  -- how a wait for the unit of an id ends, of which so many workers of so many have ended: it isn't
  -- pending, or it is and no worker is left; it goes on while it is and one is left
  abbrev pub IsSettledForBy : Machine P → ℕ → ℕ → ℕ → Option Settled → Type 0
  IsSettledForBy machine id ended workers (Some settled.Done) = IsSettled IsOf machine id
  IsSettledForBy machine id ended workers (Some settled.Idle) = Shows IsOf machine id shown.Pending × (workers ≤ ended)
  IsSettledForBy machine id ended workers (Some settled.Rested) = ⊥
  IsSettledForBy machine id ended workers None = Shows IsOf machine id shown.Pending × (ended < workers)
