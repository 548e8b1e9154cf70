use Rattle.std.proofs.Common.{ℕ, subst, sym}
use Rattle.std.specs.List.Sorted.{IsNonDecreasing}
use Rattle.std.proofs.lemmas.List.Sorted.{IsNonDecreasingBy-from_sort}
use Rattle.stream_edits.proofs.Rising.{AreIds-told}
use Rattle.stream_edits.proofs.snapshots.ids.are_ids.Goals as goal

pub rise-requires : goal.rise-requires
rise-requires c =
    subst IsNonDecreasing (sym c.deref.ensures.value)
    (IsNonDecreasingBy-from_sort (λ (x : ℕ). x) c.sort_unstable.new.self.items c.sort_unstable.ensures.sorted)

pub returns : goal.returns
returns c =
    AreIds-told _ c.in_ok-numbers.numbers.items c.sort_unstable.new.self.items _ c.args.ids_given c.rise.result
    c.in_ok-numbers.ensures c.sort_unstable.ensures.permutation c.deref.ensures.value c.rise.ensures
