-- Sets of numbers.
use Rattle.std.specs.Prelude.{ℕ, Bool}
use Rattle.std.specs.Ordering.{nat_cmp}
use Rattle.std.specs.BTreeSet.{contains}
use Rattle.seat_books.specs.declared.number_set.NumberSet.{NumberSet}

-- whether the number is in the set
abbrev pub has : NumberSet → ℕ → Bool
has set number = contains nat_cmp set.numbers number
