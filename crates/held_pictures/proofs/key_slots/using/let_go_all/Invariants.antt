use Rattle.std.proofs.Common.{◌≡◌, ◌+◌, ◌<◌, ◌≤◌, ℕ, List, take, Some, ◌⊎◌}
use Rattle.std.specs.Prelude.{Contains, IsPermutation, vec_len}
use Rattle.std.specs.Map.{keys_of}
use Rattle.std.specs.Vec.{vec_capacity}
use Rattle.held_pictures.specs.Accounts.{pictures_of}
use Rattle.held_pictures.specs.Counting.{times_in}
use Rattle.held_pictures.specs.KeySlots.{uses_at, place_at}
use Rattle.held_pictures.specs.Going.{IsHeldBefore}
use Rattle.held_pictures.proofs.Going.{HaveGone}
use Rattle.held_pictures.proofs.key_slots.using.let_go_all.Given as goal

abbrev pub invariant-loop-key : goal.invariant-loop-key
invariant-loop-key g l = record {
  uses : (number : ℕ) → uses_at l.key_slots number + times_in number (take l.key-index l.leaving) ≡ uses_at l.initial.key_slots number;
  stay : (number : ℕ) → 0 < uses_at l.key_slots number → place_at l.key_slots number ≡ place_at l.initial.key_slots number;
  gone : (held : List ℕ) → IsHeldBefore held l.leaving l.initial.key_slots
      → HaveGone held l.leaving l.key-index l.key_slots l.initial.cache.capacity (keys_of l.initial.cache.pairs) (keys_of l.cache.pairs) l.lost;
  few : l.lost ≤ l.key-index;
  capacity : l.cache.capacity ≡ l.initial.cache.capacity;
  those : (number : ℕ) (picture : g.row.P.Denot) → Contains l.cache.pairs (number, picture)
      → Contains l.initial.cache.pairs (number, picture)
      ⊎ ((place_at l.initial.key_slots number ≡ Some (Some picture)) × (uses_at l.key_slots number ≡ 0));
  accounts : IsPermutation (pictures_of l.initial.key_slots l.initial.cache.pairs l.initial.released.items)
      (pictures_of l.key_slots l.cache.pairs l.released.items);
  most : vec_len l.released ≤ vec_len l.initial.released + l.key-index;
  spare : vec_capacity l.released ≡ vec_capacity l.initial.released;
}
