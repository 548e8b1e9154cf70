-- The least of some numbers.
use Rattle.std.proofs.Common.{◌≡◌, ℤ, rules}
use Rattle.std.specs.Int.{int_min}
use Rattle.std.specs.Ordering.{int_cmp, min_by_ordering}

-- what `min` keeps of two numbers
pub min_is : (x y : ℤ) → min_by_ordering (int_cmp x y) x y ≡ int_min x y
min_is x y = search rules
