-- States that are stored along a stream, each at a place.
use Rattle.std.specs.Prelude.{◌≡◌, ℕ, ◌-◌, ◌<◌, ◌≤◌, List, Some, nat_eq, is_some, All, if◌then◌else◌, refl}
use Rattle.std.specs.Map.{keys_of, lookup}
use Rattle.std.specs.Coded.{Coded, code_by, coded×, coded_list, coded_ℕ}
use Rattle.checkpoints.specs.Places.{StartsAtZero, AreRising}

-- the places with their states, in order, and for how many more places there is room
pub record Stored (S : Type 0) : Type 0 where
  pub states : List (ℕ × S)
  pub spare : ℕ

module _ {S : Type 0} where
  -- states are stored as the pair of the fields
  abbrev pub stored_code : Coded S → Coded (Stored S)
  stored_code state =
      code_by (List (ℕ × S) × ℕ) (coded× (coded_list (coded× coded_ℕ state)) coded_ℕ) (λ s. (s.states, s.spare)) (λ p. record { states = p.0; spare = p.1 }) (λ _. refl)

  -- what holds always: the state at place 0 is there, and no place is there twice
  pub record IsInOrder (states : List (ℕ × S)) : Type 0 where
    pub first : StartsAtZero (keys_of states)
    pub rising : AreRising (keys_of states)

  -- the state is stored at the place
  abbrev pub IsStoredAt : List (ℕ × S) → ℕ → S → Type 0
  IsStoredAt states place state = lookup (nat_eq place) states ≡ Some state

  -- this one is stored at the greatest place not above `place`
  pub record IsBefore (states : List (ℕ × S)) (place found : ℕ) (state : S) : Type 0 where
    pub stored : IsStoredAt states found state
    pub not_above : found ≤ place
    pub greatest : All (λ e. e.0 ≤ place → e.0 ≤ found) states

  -- this one is stored at the least place above `place`
  pub record IsAfter (states : List (ℕ × S)) (place found : ℕ) (state : S) : Type 0 where
    pub stored : IsStoredAt states found state
    pub above : place < found
    pub least : All (λ e. place < e.0 → found ≤ e.0) states

  -- this one is stored at the greatest place
  pub record IsLast (states : List (ℕ × S)) (found : ℕ) (state : S) : Type 0 where
    pub stored : IsStoredAt states found state
    pub greatest : All (λ e. e.0 ≤ found) states

  -- for how many more places there is room once a state is put at the place
  abbrev pub spare_after_put : Stored S → ℕ → ℕ
  spare_after_put stored place =
      if is_some (lookup (nat_eq place) stored.states) then stored.spare else stored.spare - 1
