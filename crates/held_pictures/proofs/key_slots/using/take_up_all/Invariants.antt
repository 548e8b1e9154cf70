use Rattle.std.proofs.Common.{◌≡◌, ℕ, ◌==◌, take, length, Some}
use Rattle.std.specs.Prelude.{Contains, IsPermutation}
use Rattle.std.specs.Map.{keys_of, lookup}
use Rattle.held_pictures.specs.Accounts.{AreApart, pictures_kept}
use Rattle.held_pictures.specs.Counting.{times}
use Rattle.held_pictures.specs.Left.{IsLeft}
use Rattle.held_pictures.specs.KeySlots.{IsTakenUp}
use Rattle.held_pictures.proofs.key_slots.using.take_up_all.Given as goal

abbrev pub invariant-loop-key : goal.invariant-loop-key
invariant-loop-key g l = record {
  up : (number : ℕ)
      → IsTakenUp l.initial.key_slots l.initial.cache.pairs (times number (take l.key-index l.keys)) l.key_slots number;
  long : length l.key_slots ≡ length l.initial.key_slots;
  left : IsLeft (λ n. Contains (take l.key-index l.keys) (Some n)) (keys_of l.initial.cache.pairs) (keys_of l.cache.pairs);
  capacity : l.cache.capacity ≡ l.initial.cache.capacity;
  those : (number : ℕ) (picture : g.row.P.Denot) → Contains l.cache.pairs (number, picture)
      → Contains l.initial.cache.pairs (number, picture);
  found : (number : ℕ) → times number (take l.key-index l.keys) ≡ 0
      → lookup (λ other. number == other) l.cache.pairs ≡ lookup (λ other. number == other) l.initial.cache.pairs;
  accounts : AreApart l.initial.key_slots l.initial.cache.pairs
      → IsPermutation (pictures_kept l.initial.key_slots l.initial.cache.pairs) (pictures_kept l.key_slots l.cache.pairs);
}
