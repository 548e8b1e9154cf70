-- A session as contracts see it, and its edits.
use Rattle.std.specs.Prelude.{◌≡◌, ℕ, ◌+◌, ◌≤◌, List, [], ◌∷◌, ◌++◌, length, IsPermutation, Option, None, Result, Ok, Err}
use Rattle.request_core.specs.Fold.{outcomes_of}
use Rattle.decode_jobs.specs.Keys.{Key}
use Rattle.picture_store.specs.Pictures.{Pictures, all_of, no_pictures}
use Rattle.picture_store.specs.Stores.{OutValue, StoreValue}
use Rattle.picture_store.specs.Changes.{Refits}
use Rattle.stream_edits.specs.declared.accepting.AcceptedEdit.{AcceptedEdit}
use Rattle.stream_edits.specs.declared.edits.Edit.{Edit}
use Rattle.stream_edits.specs.declared.receipts.Receipt.{Receipt}
use Rattle.stream_edits.specs.declared.refusals.EditRefused.{EditRefused}
use Rattle.stream_edits.specs.Streams.{Stream, ids_of}
use Rattle.stream_edits.specs.Edits.{Register, no_units, Makes}
use Rattle.stream_edits.specs.declared.changes.Change.{Change}
use Rattle.stream_edits.specs.Changes.{IsFor, after}
use Rattle.stream_fold.specs.Meeting.{IsCounted, IsMeeting}
use Rattle.stream_edits.specs.Reading.{IsHashedFor}
use Rattle.stream_edits.specs.Refusals.{IsRefused}
use Rattle.stream_session.specs.Changing.{ChangesUnits}

-- the room of the cache; what the session began from; the accepted edits since then, in order, those
-- of a group as one entry, and what they leave; the number of each unit's key, nothing for a unit that isn't valid; the keys whose
-- pictures are held, and those whose pictures are cached, the one put last first; the pictures
-- themselves; the jobs that are out; how many numbers of jobs were given; and the keys that the last
-- mark remembers, where one was made
pub record Machine (P : Type 0) : Type 0 where
  pub capacity : ℕ
  pub origin : Register
  pub journal : List (List Edit)
  pub register : Register
  pub numbers : List (Option ℕ)
  pub held : List Key
  pub cached : List Key
  pub pictures : Pictures P
  pub jobs_out : List (OutValue P)
  pub jobs : ℕ
  pub marked : Option (List Key)

-- the steps are few: at most 64 more than units past the changed one after which the folds before
-- and after the change agree, or there are no more units
abbrev pub AreFew : Change → Stream → ℕ → Type 0
AreFew change stream steps = (count : ℕ) → IsMeeting change stream count → steps ≤ count + 64

-- the edit comes to a change that leaves this, and takes few steps of the fold, each of them
-- counted
pub record Refolds (old : Register) (edit : Edit) (steps : ℕ) (new : Register) : Type 0 where
  pub accepted : AcceptedEdit
  pub comes_to : IsFor old edit accepted
  pub leaves : new ≡ after accepted.change accepted.ids_given old.stream
  pub few : AreFew accepted.change old.stream steps
  pub counted : IsCounted accepted.change old.stream steps

module _ {P : Type 0} where
  -- before the first edit
  abbrev pub empty : ℕ → Machine P
  empty capacity = record {
    capacity = capacity;
    origin = no_units;
    journal = [];
    register = no_units;
    numbers = [];
    held = [];
    cached = [];
    pictures = no_pictures;
    jobs_out = [];
    jobs = 0;
    marked = None;
  }

  -- the session is one before the first edit, of an empty stream
  abbrev pub IsEmpty : Machine P → Type 0
  IsEmpty machine = (capacity : ℕ) × (machine ≡ empty capacity)

  -- the pictures of the units, as they are stored: those of the stream's ids and of each unit's
  -- outcome
  abbrev pub store_of : Machine P → StoreValue P
  store_of machine = record {
    ids = ids_of machine.register.stream;
    outcomes = outcomes_of machine.register.stream;
    numbers = machine.numbers;
    capacity = machine.capacity;
    held = machine.held;
    cached = machine.cached;
    pictures = machine.pictures;
    jobs_out = machine.jobs_out;
    jobs_given = machine.jobs;
    marked = machine.marked;
  }

  -- no picture is cached any more
  abbrev pub uncached : Machine P → Machine P
  uncached machine = record machine { cached = []; pictures = record machine.pictures { cached = [] } }

  -- no picture comes or goes: what is neither held nor cached any more is released
  abbrev pub KeepsPictures : Machine P → Machine P → Type 0
  KeepsPictures old new = IsPermutation (all_of old.pictures) (all_of new.pictures)

  -- the pictures after the stream has changed to this one
  abbrev pub RefitsTo : StoreValue P → Stream → StoreValue P → Type 0
  RefitsTo old stream new = Refits old (ids_of stream) (outcomes_of stream) new

  -- the session begins with this stream, before the first edit; its pictures are those after the
  -- stream has changed from no units to this one
  pub record IsBegun (capacity : ℕ) (origin : Register) (machine : Machine P) : Type 0 where
    pub origin_is : machine.origin ≡ origin
    pub register_is : machine.register ≡ origin
    pub journal_is : machine.journal ≡ []
    pub refits : RefitsTo (store_of (empty capacity)) origin.stream (store_of machine)

  -- the edit is accepted with the receipt
  pub record Edits (old : Machine P) (edit : Edit) (receipt : Receipt) (new : Machine P) : Type 0 where
    pub made : Makes old.register edit receipt.id new.register
    pub origin_stays : new.origin ≡ old.origin
    pub journaled : new.journal ≡ old.journal ++ (edit ∷ []) ∷ []
    pub refits : RefitsTo (store_of old) new.register.stream (store_of new)
    pub loses : refits.lost ≡ receipt.lost_pictures
    pub number_is : receipt.number ≡ length new.journal
    pub refolds : Refolds old.register edit receipt.steps new.register
    pub hashes : IsHashedFor edit receipt.hashed
    pub changes : ChangesUnits old.register.stream new.register.stream receipt.changed

  -- an answer to an edit: its receipt, or why it is refused and changes nothing
  abbrev pub AnswersEdit : Machine P → Edit → Result Receipt EditRefused → Machine P → Type 0
  AnswersEdit old edit (Ok receipt) new = Edits old edit receipt new
  AnswersEdit old edit (Err refused) new = IsRefused old.register edit refused × (new ≡ old)
