-- Edits that are made by one change.
use Rattle.std.specs.Prelude.{◌≡◌, ℕ, ◌+◌, ◌≤◌, List, [], ◌∷◌, ◌++◌, length}
use Rattle.picture_keys.specs.declared.changed_units.changed.Changed.{Changed}
use Rattle.stream_edits.specs.declared.changes.Change.{Change}
use Rattle.stream_edits.specs.declared.edits.Edit.{Edit}
use Rattle.picture_store.specs.Stores.{StoreValue}
use Rattle.stream_edits.specs.Changes.{after, stream_after, units_of}
use Rattle.stream_edits.specs.Edits.{Register}
use Rattle.stream_edits.specs.Groups.{MakesAll}
use Rattle.stream_edits.specs.Streams.{Stream}
use Rattle.stream_fold.specs.Meeting.{IsCounted, IsMeeting}
use Rattle.stream_session.specs.Changing.{ChangesUnits}
use Rattle.stream_session.specs.Machines.{Machine, RefitsTo, store_of}

-- the edits come to the change, with so many ids given then
abbrev pub ComeTo : Register → List Edit → Change → ℕ → Type 0
ComeTo old edits change given = (ids : List ℕ) × MakesAll old edits ids (after change given old.stream)

-- the fold makes few steps
abbrev pub MakesFew : Change → Stream → ℕ → Type 0
MakesFew change stream steps = (count : ℕ) → IsMeeting change stream count → steps ≤ length (units_of change) + count + 63

module _ {P : Type 0} where
  -- the pictures are those of the stream after the change, which took so many steps; so many of them
  -- are lost, and these units changed
  pub record MovesPictures (old : StoreValue P) (stream : Stream) (change : Change) (steps lost : ℕ) (changed : Changed) (new : StoreValue P)
      : Type 0 where
    pub refits : RefitsTo old (stream_after change stream) new
    pub loses : refits.lost ≡ lost
    pub few : MakesFew change stream steps
    pub counted : IsCounted change stream steps
    pub changes : ChangesUnits stream (stream_after change stream) changed

  -- the edits are made by the change, in so many steps; so many pictures are lost, and these units
  -- changed
  pub record Moves (old : Machine P) (edits : List Edit) (change : Change) (given steps lost : ℕ) (changed : Changed) (new : Machine P)
      : Type 0 where
    pub register_is : new.register ≡ after change given old.register.stream
    pub origin_stays : new.origin ≡ old.origin
    pub journaled : new.journal ≡ old.journal ++ edits ∷ []
    pub refits : RefitsTo (store_of old) new.register.stream (store_of new)
    pub loses : refits.lost ≡ lost
    pub few : MakesFew change old.register.stream steps
    pub counted : IsCounted change old.register.stream steps
    pub changes : ChangesUnits old.register.stream new.register.stream changed
