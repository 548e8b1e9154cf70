use Rattle.std.proofs.Common.{◌≡◌, length}
use Rattle.std.specs.Iterator.Adapters.{zip_first, zip_second}
use Rattle.std.specs.Slice.Iter.{iter_rest}
use Rattle.slice_reading.proofs.tables.same_entries.Given as goal

-- the rests are equal where the whole lists are
abbrev pub invariant-loop-entry : goal.invariant-loop-entry
invariant-loop-entry g l =
    let xs = iter_rest (zip_first l.entry-iterator) in
    let ys = iter_rest (zip_second l.entry-iterator) in
    (length xs ≡ length ys) × (xs ≡ ys → l.a ≡ l.b) × (l.a ≡ l.b → xs ≡ ys)
