-- The access units at ranges, read one after the other.
use Rattle.std.proofs.Common.{ℕ, ◌+◌, ◌<◌, List, [], ◌∷◌, ◌++◌, length, take, get_or, slice_range, Result}
use Rattle.std.specs.List.{AllZip}
use Rattle.std.specs.declared.ops.Range.{Range}
use Rattle.std.proofs.lemmas.List.{map_more}
use Rattle.std.proofs.lemmas.Slice.Zip.{all_zipped_more}
use Rattle.annexb.specs.AccessUnits.{parts_at}
use Rattle.access_unit.specs.declared.refused.Refused.{Refused}
use Rattle.access_unit.proofs.StreamParts.{IsReading}

-- the access unit at a range
abbrev pub part_at : List (List ℕ) → Range ℕ → List (List ℕ)
part_at units range = slice_range units range.start range.end

-- one access unit more is read
pub read_more : (units : List (List ℕ)) (ranges : List (Range ℕ)) (at : ℕ) (none : Range ℕ) (answers : List (Result (List (List ℕ)) Refused))
    (answer : Result (List (List ℕ)) Refused) → at < length ranges → AllZip IsReading (parts_at units (take at ranges)) answers
    → IsReading (part_at units (get_or ranges at none)) answer → AllZip IsReading (parts_at units (take (at + 1) ranges)) (answers ++ answer ∷ [])
read_more units ranges at none answers answer below so_far read =
    rw (map_more (part_at units) ranges at none below)
    (all_zipped_more IsReading (parts_at units (take at ranges)) answers (part_at units (get_or ranges at none)) answer so_far read)
