use Rattle.std.proofs.Common.{◌≡◌, ℕ, List, [], ap, arith}
use Rattle.std.proofs.lemmas.List.Sorted.{IsNonDecreasingBy-from_sort, sum_by-IsPermutation}
use Rattle.held_pictures.specs.Counting.{once_if, times_in}
use Rattle.picture_store.proofs.recounting.leaving.Goals as goal

-- no key stands in a list without keys
none : (number : ℕ) (keys : List ℕ) → keys ≡ [] → times_in number keys ≡ 0
none number keys is = ap (times_in number) is

pub returns-clause-counted : goal.returns-clause-counted
returns-clause-counted c = λ number.
    omega (
      arith,
      sum_by-IsPermutation (once_if number) c.add_numbers.new.roots.items c.sort_unstable.new.self.items
          c.sort_unstable.ensures.permutation,
      c.in_ok-add_numbers.ensures.counted number,
      none number c.new-keys.result.items c.new-keys.ensures.items,
    )

pub returns-clause-rising : goal.returns-clause-rising
returns-clause-rising c =
    IsNonDecreasingBy-from_sort (λ (x : ℕ). x) c.sort_unstable.new.self.items c.sort_unstable.ensures.sorted
