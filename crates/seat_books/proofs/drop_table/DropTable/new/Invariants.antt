use Rattle.std.proofs.Common.{◌≡◌, ℕ, ◌+◌, [], length}
use Rattle.std.specs.Prelude.{option_map, slice_get, unwrap_or}
use Rattle.seat_books.proofs.drop_table.DropTable.new.Given as goal

abbrev pub invariant-loop-at : goal.invariant-loop-at
invariant-loop-at l = record {
  size : length l.by_length.items ≡ l._at + 1;
  none : (n : ℕ) → unwrap_or (option_map (λ drops. drops.items) (slice_get l.by_length.items n)) [] ≡ [];
}
