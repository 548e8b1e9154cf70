-- The states that are stored after a change.
use Rattle.std.specs.Prelude.{ℕ, ◌+◌, ◌<◌, List, [], ◌∷◌, Contains}
use Rattle.std.specs.Map.{keys_of}
use Rattle.std.specs.Ordering.{nat_cmp}
use Rattle.std.specs.BTreeMap.{insert_entry}
use Rattle.request_core.specs.States.{FoldState}
use Rattle.checkpoints.specs.declared.shifting.LengthChange.{LengthChange}
use Rattle.checkpoints.specs.Changes.{shifted, cut}
use Rattle.checkpoints.specs.Spacing.{HasNear}
use Rattle.checkpoints.specs.Stored.{IsStoredAt}
use Rattle.stream_fold.specs.StoredStates.{spacing}

-- states stored one after the other
abbrev pub put_all : List (ℕ × FoldState) → List (ℕ × FoldState) → List (ℕ × FoldState)
put_all [] states = states
put_all (e ∷ more) states = put_all more (insert_entry nat_cmp states e.0 e.1)

-- those up to one place, those from another place on, moved by the change, and new ones
abbrev pub stored_after : ℕ → ℕ → LengthChange → List (ℕ × FoldState) → List (ℕ × FoldState) → List (ℕ × FoldState)
stored_after kept stays change made states = put_all made (shifted stays change (cut kept stays states))

-- the states without the one at a place, or with it where those before it and past it are too far
-- from each other
pub record IsThinned (place : ℕ) (old new : List (ℕ × FoldState)) : Type 0 where
  pub only : (other : ℕ) (state : FoldState) → IsStoredAt new other state → IsStoredAt old other state
  pub near : (k : ℕ) → HasNear spacing (keys_of old) k → HasNear spacing (keys_of new) k
  pub sparse : (before past : ℕ) → Contains (keys_of new) before → Contains (keys_of new) place → Contains (keys_of new) past
      → before < place → place < past → before + spacing < past
