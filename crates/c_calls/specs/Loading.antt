-- A stream whose access units are inserted one after the other, and what is told of it.
use Rattle.std.specs.Prelude.{◌≡◌, ◌==◌, ◌+◌, ◌-◌, ◌^◌, ◌≤◌, ◌⊎◌, ℕ, List, [], ◌∷◌, length, min, Ok, Err, if◌then◌else◌}
use Rattle.annexb.specs.ByteStream.{joined}
use Rattle.access_unit.specs.StreamUnits.{IsStream, IsStreamRefused, most_units}
use Rattle.access_unit.specs.Numbers.{number_of as number_of_text}
use Rattle.access_unit.specs.declared.stream_units.Refusal.{Refusal}
use Rattle.access_unit.specs.declared.stream_units.Refusal.TheVariants.{Split, StreamFull, Unit}
use Rattle.stream_edits.specs.declared.edits.Edit.TheVariants.{Insert}
use Rattle.stream_edits.specs.declared.receipts.Receipt.{Receipt}
use Rattle.stream_edits.specs.declared.refusals.EditRefused.{EditRefused}
use Rattle.stream_edits.specs.Numbers.{number_of}
use Rattle.stream_edits.specs.Streams.{Stream, end_of}
use Rattle.c_calls.specs.Machines.{Machine}
use Rattle.c_calls.specs.declared.loading.LoadReceipt.{LoadReceipt}
use Rattle.c_calls.specs.Editing.{MakesEdit}
use Rattle.c_calls.specs.Statuses.{done, memory}

-- nothing was inserted, with this index
abbrev pub none_at : ℕ → LoadReceipt
none_at index = record {
  number = 0;
  steps = 0;
  hashed = 0;
  units = 0;
  changed_from = 0;
  changed_count = 0;
  index = index;
  first = 0;
}

-- two counts together, or the largest that is told
abbrev pub counted : ℕ → ℕ → ℕ
counted count more = min (count + more) (2 ^ 64 - 1)

-- what is told after one unit more
abbrev pub with_one : LoadReceipt → Receipt → LoadReceipt
with_one loaded receipt = record {
  number = receipt.number;
  steps = counted loaded.steps receipt.steps;
  hashed = counted loaded.hashed receipt.hashed;
  units = counted loaded.units 1;
  changed_from = if loaded.units == 0 then receipt.changed.from else loaded.changed_from;
  changed_count = counted loaded.units 1;
  index = 0;
  first = if loaded.units == 0 then receipt.id else loaded.first;
}

-- the units are inserted after the last one, each by an edit, to the end or to the first edit that
-- is refused
abbrev pub InsertsAll : Machine → List (List (List ℕ)) → LoadReceipt → ℕ → LoadReceipt → Machine → Type 0
InsertsAll old [] loaded status after new = (status ≡ done) × (after ≡ loaded) × (new ≡ old)
InsertsAll old (part ∷ parts) loaded status after new =
    ((receipt : Receipt) × (next : Machine)
    × MakesEdit old (Insert (end_of old.register.stream) (joined part)) (Ok receipt) next
    × InsertsAll next parts (with_one loaded receipt) status after new)
    ⊎ ((refused : EditRefused)
    × MakesEdit old (Insert (end_of old.register.stream) (joined part)) (Err refused) new
    × (status ≡ number_of refused) × (after ≡ loaded))

-- for how many more units a stream has room
abbrev pub capacity_of : Stream → ℕ
capacity_of stream = most_units - length stream

-- the number of a stream's refusal
abbrev pub number_of_refusal : Refusal → ℕ
number_of_refusal Split = 1
number_of_refusal (Unit index refused) = number_of_text refused
number_of_refusal StreamFull = 17

-- which access unit a stream is refused for
abbrev pub index_of : Refusal → ℕ
index_of (Unit index refused) = index
index_of refusal = 0

-- a text is loaded: its units are inserted; or it is refused; or memory is refused before the
-- session is reached
abbrev pub LoadsTo : Machine → List ℕ → ℕ → LoadReceipt → Machine → Type 0
LoadsTo old text status after new =
    ((parts : List (List (List ℕ))) × IsStream text parts × (length parts ≤ capacity_of old.register.stream)
    × InsertsAll old parts (none_at 0) status after new)
    ⊎ ((refusal : Refusal) × IsStreamRefused text (capacity_of old.register.stream) refusal
    × (status ≡ number_of_refusal refusal) × (after ≡ none_at (index_of refusal)) × (new ≡ old))
    ⊎ ((status ≡ memory) × (after ≡ none_at 0) × (new ≡ old))
