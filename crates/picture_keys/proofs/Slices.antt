-- How many bytes the slices of NAL units have.
use Rattle.std.proofs.Common.{◌≡◌, ℕ, ◌+◌, ◌≤◌, List, [], ◌∷◌, ◌++◌, length, ⊎_elim, arith, length-append}
use Rattle.std.proofs.lemmas.Bool.{cases_Bool}
use Rattle.std.specs.List.{filter}
use Rattle.annexb.specs.ByteStream.{joined, start_code}
use Rattle.annexb.specs.NalUnit.{is_slice}
use Rattle.picture_keys.specs.Digests.{slice_bytes}

-- no more than all NAL units have
pub slice_bytes-within : (units : List (List ℕ)) → slice_bytes units ≤ length (joined units)
slice_bytes-within [] = omega arith
slice_bytes-within (unit ∷ units) =
    let others = slice_bytes-within units in
    let long = length-append (start_code ++ unit) (joined units) in
    let left = length-append (start_code ++ unit) (joined (filter is_slice units)) in
    ⊎_elim (λ slice. rw slice (omega (arith, others, long, left))) (λ other. rw other (omega (arith, others, long))) (cases_Bool (is_slice unit))
