use Rattle.std.proofs.Common.{◌≡◌, ◌+◌, ℕ, Contains, Some, take}
use Rattle.held_pictures.specs.Counting.{times, times_in}
use Rattle.picture_store.proofs.refitting.add_numbers.Given as goal

abbrev pub invariant-loop-key : goal.invariant-loop-key
invariant-loop-key l =
    record {
      old : (number : ℕ) → Contains l.initial.roots.items number → Contains l.roots.items number;
      added : (number : ℕ) → Contains (take l.key-index l.numbers) (Some number) → Contains l.roots.items number;
      counted : (number : ℕ) → times_in number l.roots.items ≡ times_in number l.initial.roots.items + times number (take l.key-index l.numbers);
    }
