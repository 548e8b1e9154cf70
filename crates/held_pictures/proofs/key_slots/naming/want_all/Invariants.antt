use Rattle.std.proofs.Common.{◌≡◌, ℕ, ◌<◌, ◌⊎◌, Some, Contains, slice_get}
use Rattle.held_pictures.specs.Held.{IsHeld}
use Rattle.held_pictures.proofs.key_slots.naming.want_all.Given as goal

-- the ids of the entries so far are there
abbrev pub invariant-loop-at : goal.invariant-loop-at
invariant-loop-at g l =
    record {
      stay : (id : ℕ) → Contains l.fn.wanted.items id → Contains l.wanted.items id;
      only : (id : ℕ) → Contains l.wanted.items id → Contains l.fn.wanted.items id ⊎ Contains l.units (Some id);
      all : (i id number : ℕ) → i < l.at → slice_get l.units i ≡ Some (Some id)
          → slice_get l.entries i ≡ Some (Some number) → (IsHeld l.key_slots number → ⊥) → Contains l.wanted.items id;
    }
