-- What the type of stored states keeps.
use Rattle.std.specs.Prelude.{◌≡◌, ℕ, ◌+◌, ◌≤◌, Vec}
use Rattle.std.specs.Global.{Global}
use Rattle.std.specs.Vec.{vec_len, vec_capacity}
use Rattle.checkpoints.specs.Places.{StartsAtZero, AreRising}

-- the places rise from 0, each has a state, and there is room for more
pub record IsSound {S : Type 0} (places : Vec ℕ Global) (states : Vec S Global) (spare : ℕ) : Type 0 where
  pub same : vec_len states ≡ vec_len places
  pub first : StartsAtZero places.items
  pub rising : AreRising places.items
  pub places_fit : vec_len places + spare ≤ vec_capacity places
  pub states_fit : vec_len states + spare ≤ vec_capacity states
