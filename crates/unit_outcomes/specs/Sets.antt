-- Sets of ids.
use Rattle.std.specs.Prelude.{ℕ, Bool}
use Rattle.std.specs.Ordering.{nat_cmp}
use Rattle.std.specs.BTreeSet.{contains}
use Rattle.unit_outcomes.specs.declared.doubts.id_set.IdSet.{IdSet}

-- whether the id is in the set
abbrev pub has : IdSet → ℕ → Bool
has set id = contains nat_cmp set.numbers id
