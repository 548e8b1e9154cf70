-- Sessions that are opened and closed.
use Rattle.std.specs.Prelude.{◌≡◌, ◌≤◌, ◌⊎◌, ℕ, Option, None, Some}
use Rattle.held_pictures.specs.Bounded.{most_capacity}
use Rattle.c_calls.specs.Machines.{Machine}
use Rattle.stream_session.specs.Machines.{empty}
use Rattle.c_calls.specs.Statuses.{cache_range, done, is_open, memory, no_session}

-- a cache may have so much room
abbrev pub IsCapacity : ℕ → Type 0
IsCapacity cache = (1 ≤ cache) × (cache ≤ most_capacity)

-- a session with an empty stream is there, or the room of its cache may not be, or memory was
-- refused
abbrev pub OpensNone : ℕ → ℕ → Option Machine → Type 0
OpensNone cache status new =
    (IsCapacity cache × (status ≡ done) × (new ≡ Some (empty cache)))
    ⊎ ((IsCapacity cache → ⊥) × (status ≡ cache_range) × (new ≡ None))
    ⊎ (IsCapacity cache × (status ≡ memory) × (new ≡ None))

-- a handle is opened; one that has a session keeps it
abbrev pub Opens : Option Machine → ℕ → ℕ → Option Machine → Type 0
Opens None cache status new = OpensNone cache status new
Opens (Some machine) cache status new = (status ≡ is_open) × (new ≡ Some machine)

-- a handle is closed, and has no session then
abbrev pub Closes : Option Machine → ℕ → Option Machine → Type 0
Closes None status new = (status ≡ no_session) × (new ≡ None)
Closes (Some machine) status new = (status ≡ done) × (new ≡ None)
