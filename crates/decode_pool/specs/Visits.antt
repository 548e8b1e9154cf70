-- What one is answered who edits a desk and asks it without a seat.
use Rattle.std.specs.Prelude.{◌≡◌, ℕ, Bool, true, List, Option, Result}
use Rattle.decode_jobs.specs.Keys.{Key}
use Rattle.stream_edits.specs.declared.edits.Edit.{Edit}
use Rattle.stream_edits.specs.declared.group_refused.GroupRefused.{GroupRefused}
use Rattle.stream_edits.specs.declared.receipts.GroupReceipt.{GroupReceipt}
use Rattle.stream_edits.specs.declared.receipts.Receipt.{Receipt}
use Rattle.stream_edits.specs.declared.refusals.EditRefused.{EditRefused}
use Rattle.stream_session.specs.declared.showing.Dropped.{Dropped}
use Rattle.stream_session.specs.declared.showing.Shown.{Shown}
use Rattle.stream_session.specs.Grouping.{AnswersGroup}
use Rattle.stream_session.specs.Machines as sessions
use Rattle.stream_session.specs.Needing as needing
use Rattle.stream_session.specs.Showing.{Shows}
use Rattle.stand_in_session.specs.declared.jobs.Dropping.{Dropping}
use Rattle.stand_in_session.specs.Machines.{Machine}
use Rattle.stand_in_session.specs.Needing.{AnswersDrop}
use Rattle.decode_pool.specs.Waits.{IsReached}

-- an edit is answered by a session, which no clause can name; where pictures go back to the host,
-- none comes or goes
abbrev pub EditsSome : Type 0 → Bool → Edit → Result Receipt EditRefused → Type 0
EditsSome P goes_back edit answer =
    (before : sessions.Machine P) × (after : sessions.Machine P) × IsReached before
    × sessions.AnswersEdit before edit answer after
    × (goes_back ≡ true → sessions.KeepsPictures before after)

-- a group of edits is answered by a session, which no clause can name; where pictures go back to the
-- host, none comes or goes
abbrev pub EditsGroupSome : Type 0 → Bool → List Edit → Result GroupReceipt GroupRefused → Type 0
EditsGroupSome P goes_back edits answer =
    (before : sessions.Machine P) × (after : sessions.Machine P) × IsReached before × AnswersGroup before edits answer after
    × (goes_back ≡ true → sessions.KeepsPictures before after)

module _ {P : Type 0} (IsOf : Key → P → Type 0) where
  -- a session, which no clause can name, shows that of the unit of the id
  abbrev pub ShowsSome : ℕ → Shown P → Type 0
  ShowsSome id answer = (machine : sessions.Machine P) × IsReached machine × Shows IsOf machine id answer

  -- the picture of the unit of the id goes back from a session, which no clause can name
  abbrev pub DropsSome : ℕ → Dropped P → Type 0
  DropsSome id answer =
      (before : sessions.Machine P) × (after : sessions.Machine P) × IsReached before
      × needing.AnswersDrop IsOf before id answer after

  -- the picture that was cached first goes back from a session, which no clause can name
  abbrev pub UncachesSome : Option P → Type 0
  UncachesSome answer =
      (before : sessions.Machine P) × (after : sessions.Machine P) × IsReached before
      × needing.AnswersUncache IsOf before answer after

module _ {P : Type 0} where
  -- a released picture goes back from a session, which no clause can name
  abbrev pub ReleasesSome : Option P → Type 0
  ReleasesSome answer =
      (before : sessions.Machine P) × (after : sessions.Machine P) × IsReached before
      × needing.AnswersReleased before answer after

-- the answer is one of a session at the stand-in, which no clause can name
abbrev pub AsksOne : (Machine → Type 0) → Type 0
AsksOne answers = (machine : Machine) × IsReached machine × answers machine

-- the drop of a picture is answered by a session at the stand-in, which no clause can name
abbrev pub DropsOne : ℕ → Dropping → Type 0
DropsOne id answer = (before : Machine) × (after : Machine) × IsReached before × AnswersDrop before id answer after
