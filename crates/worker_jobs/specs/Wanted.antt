-- What is wanted of a stream.
use Rattle.std.specs.Prelude.{◌≡◌, ◌⊎◌, ℕ, Bool, true, List, [], ◌++◌, Some, slice_get, remove}

-- the ids of the units that threads wait for, the one that has waited longest first; the ids of the
-- list, in order of urgency; and whether the rest of the stream is wanted too
pub record Wants : Type 0 where
  pub waited : List ℕ
  pub listed : List ℕ
  pub rest : Bool

-- at first: no id before others, and the whole stream
abbrev pub all_units : Wants
all_units = record { waited = []; listed = []; rest = true }

-- the wanted ids in order of urgency
abbrev pub urgent : Wants → List ℕ
urgent wants = wants.waited ++ wants.listed

-- one who waits for the unit of the id is left out, where there is one
abbrev pub IsOneLess : Wants → ℕ → Wants → Type 0
IsOneLess old id new =
    ((at : ℕ) × (slice_get old.waited at ≡ Some id) × (new ≡ record old { waited = remove old.waited at }))
    ⊎ (((at : ℕ) → slice_get old.waited at ≡ Some id → ⊥) × (new ≡ old))
