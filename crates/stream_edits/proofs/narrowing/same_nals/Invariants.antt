use Rattle.std.proofs.Common.{◌≡◌, length}
use Rattle.std.specs.Iterator.Adapters.{zip_first, zip_second}
use Rattle.std.specs.Slice.Iter.{iter_rest}
use Rattle.stream_edits.proofs.narrowing.same_nals.Given as goal

-- the rests are equal where the whole lists are
abbrev pub invariant-loop-nal : goal.invariant-loop-nal
invariant-loop-nal l =
    let xs = iter_rest (zip_first l.nal-iterator) in
    let ys = iter_rest (zip_second l.nal-iterator) in
    (length xs ≡ length ys) × (xs ≡ ys → l.a ≡ l.b) × (l.a ≡ l.b → xs ≡ ys)
