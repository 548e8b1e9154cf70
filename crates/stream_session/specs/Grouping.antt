-- Groups of edits of a session.
use Rattle.std.specs.Prelude.{◌≡◌, ℕ, ◌+◌, ◌-◌, ◌<◌, ◌≤◌, List, [], ◌∷◌, ◌++◌, length, Result, Ok, Err}
use Rattle.stream_edits.specs.declared.edits.Edit.{Edit}
use Rattle.stream_edits.specs.declared.group_refused.GroupRefused.{GroupRefused}
use Rattle.stream_edits.specs.declared.receipts.GroupReceipt.{GroupReceipt}
use Rattle.stream_edits.specs.Common.{IsLongestFront, IsLongestRest}
use Rattle.stream_edits.specs.GroupRefusals.{IsGroupRefused}
use Rattle.stream_edits.specs.Groups.{IsSized, MakesAll}
use Rattle.stream_edits.specs.Reading.{AreHashedFor}
use Rattle.stream_edits.specs.Streams.{Stream}
use Rattle.stream_session.specs.Changing.{ChangesUnits}
use Rattle.stream_session.specs.Machines.{Machine, RefitsTo, store_of}
use Rattle.stream_fold.specs.StoredStates.{spacing}
use Rattle.stream_session.specs.MeetingPoints.{IsMeetingPoint}

-- the steps are few: whatever front and rest the streams before and after have in common, at most
-- 64 more than the new units between them and those of the rest after which the folds agree, or
-- there are no more
abbrev pub AreFewForAll : Stream → Stream → ℕ → Type 0
AreFewForAll old new steps =
    (front rest count : ℕ) → IsMeetingPoint old new front rest count → steps ≤ length new - (front + rest) + count + 64

-- the steps are those of one range, one for each of its units as they are after: fewer than the
-- spacing in front of the units that differ, those that stand in their place, and those past them
-- up to where the folds agree or there are no more
pub record AreCounted (old new : Stream) (steps : ℕ) : Type 0 where
  pub front : ℕ
  pub rest : ℕ
  pub longest_front : IsLongestFront old new front
  pub longest_rest : IsLongestRest front old new rest
  pub ahead : ℕ
  pub count : ℕ
  pub before : ahead ≤ front
  pub close : ahead < spacing
  pub meets : IsMeetingPoint old new front rest count
  pub exact : steps ≡ ahead + (length new - (front + rest)) + count

module _ {P : Type 0} where
  -- the edits are accepted as one step with the receipt: the pictures change once, between the
  -- streams before and after all of them
  pub record EditsAll (old : Machine P) (edits : List Edit) (receipt : GroupReceipt) (new : Machine P) : Type 0 where
    pub sized : IsSized edits
    pub made : MakesAll old.register edits receipt.ids.items new.register
    pub origin_stays : new.origin ≡ old.origin
    pub journaled : new.journal ≡ old.journal ++ edits ∷ []
    pub refits : RefitsTo (store_of old) new.register.stream (store_of new)
    pub loses : refits.lost ≡ receipt.lost_pictures
    pub number_is : receipt.number ≡ length new.journal
    pub few : AreFewForAll old.register.stream new.register.stream receipt.steps
    pub counted : AreCounted old.register.stream new.register.stream receipt.steps
    pub hashes : AreHashedFor edits receipt.hashed
    pub changes : ChangesUnits old.register.stream new.register.stream receipt.changed

  -- an answer to a group: its receipt, or why it is refused and changes nothing
  abbrev pub AnswersGroup : Machine P → List Edit → Result GroupReceipt GroupRefused → Machine P → Type 0
  AnswersGroup old edits (Ok receipt) new = EditsAll old edits receipt new
  AnswersGroup old edits (Err refused) new = IsGroupRefused old.register edits refused × (new ≡ old)
