use Rattle.std.proofs.Common.{ℕ, ◌<◌, take, length, Some}
use Rattle.std.specs.Prelude.{Contains}
use Rattle.held_pictures.specs.KeySlots.{AreSame}
use Rattle.held_pictures.proofs.key_slots.using.reserve_slots.Given as goal

abbrev pub invariant-loop-key : goal.invariant-loop-key
invariant-loop-key g l = record {
  same : AreSame l.initial.key_slots l.key_slots;
  capacity : (number : ℕ) → Contains (take l.key-index l.keys) (Some number) → number < length l.key_slots;
}
