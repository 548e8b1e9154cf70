-- What a call makes of a handle, which has a session or none.
use Rattle.std.specs.Prelude.{◌≡◌, ℕ, Option, None, Some}
use Rattle.c_calls.specs.Machines.{Machine}
use Rattle.c_calls.specs.Statuses.{no_session}

-- without a session the call says so, tells nothing and changes nothing; else it does this with the
-- session
abbrev pub Does : {A : Type 0} → Option Machine → ℕ → A → A → Option Machine → (Machine → Machine → Type 0) → Type 0
Does None status before after new does = (status ≡ no_session) × (after ≡ before) × (new ≡ None)
Does (Some machine) status before after new does = (next : Machine) × (new ≡ Some next) × does machine next

-- the same for a call that tells two things
abbrev pub DoesTwo : {A B : Type 0} → Option Machine → ℕ → A → A → B → B → Option Machine → (Machine → Machine → Type 0) → Type 0
DoesTwo None status before after other others new does =
    (status ≡ no_session) × (after ≡ before) × (others ≡ other) × (new ≡ None)
DoesTwo (Some machine) status before after other others new does = (next : Machine) × (new ≡ Some next) × does machine next

-- the same for a question, which never changes the session
abbrev pub Asks : {A : Type 0} → Option Machine → ℕ → A → A → Option Machine → (Machine → Type 0) → Type 0
Asks None status before after new asks = (status ≡ no_session) × (after ≡ before) × (new ≡ None)
Asks (Some machine) status before after new asks = (new ≡ Some machine) × asks machine

-- the same for a question that tells two things
abbrev pub AsksTwo : {A B : Type 0} → Option Machine → ℕ → A → A → B → B → Option Machine → (Machine → Type 0) → Type 0
AsksTwo None status before after other others new asks =
    (status ≡ no_session) × (after ≡ before) × (others ≡ other) × (new ≡ None)
AsksTwo (Some machine) status before after other others new asks = (new ≡ Some machine) × asks machine

-- the same for a change that tells nothing but its status
abbrev pub Changes : Option Machine → ℕ → Option Machine → (Machine → Machine → Type 0) → Type 0
Changes None status new changes = (status ≡ no_session) × (new ≡ None)
Changes (Some machine) status new changes = (next : Machine) × (new ≡ Some next) × changes machine next
