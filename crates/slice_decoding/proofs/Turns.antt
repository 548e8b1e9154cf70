-- Operations one after the other, by how many are done.
use Rattle.std.proofs.Common.{◌≡◌, ℕ, ◌+◌, ◌<◌, ◌≤◌, List, length, drop, get_or, Ok, Err, refl, ◌∙◌, ap, add-one, drop-cons, drop_of_length-le}
use Rattle.h264_types.specs.declared.param_sets.sps.Sps.{Sps}
use Rattle.h264_types.specs.Chains.{◌>>=◌}
use Rattle.h264_types.specs.declared.slice_headers.dec_ref_pic_marking.MemoryManagementControlOperation.{MemoryManagementControlOperation}
use Rattle.slice_decoding.specs.declared.ref_marking.fault.MarkFault.{MarkFault}
use Rattle.h264_types.specs.MarkedFrames.{Marked}
use Rattle.slice_decoding.specs.MarksAfter.{operated, all_operated}

-- the next one
pub next_operated : (sps : Sps) (frame_num : ℕ) (operations : List MemoryManagementControlOperation) (i : ℕ) (other : MemoryManagementControlOperation) (marked : Marked) → i < length operations
    → all_operated sps frame_num (drop i operations) marked ≡ (operated sps frame_num (get_or operations i other) marked >>= all_operated sps frame_num (drop (i + 1) operations))
unfolding all_operated
next_operated sps frame_num operations i other marked within = rw (drop-cons operations i other, add-one) refl

-- where it gives a set
pub next_set : (sps : Sps) (frame_num : ℕ) (operations : List MemoryManagementControlOperation) (i : ℕ) (other : MemoryManagementControlOperation) (marked after : Marked) → i < length operations
    → operated sps frame_num (get_or operations i other) marked ≡ Ok after → all_operated sps frame_num (drop i operations) marked ≡ all_operated sps frame_num (drop (i + 1) operations) after
next_set sps frame_num operations i other marked after within is =
    next_operated sps frame_num operations i other marked within ∙ ap (λ answer. answer >>= all_operated sps frame_num (drop (i + 1) operations)) is

-- where it gives a fault
pub next_fault : (sps : Sps) (frame_num : ℕ) (operations : List MemoryManagementControlOperation) (i : ℕ) (other : MemoryManagementControlOperation) (marked : Marked) (fault : MarkFault) → i < length operations
    → operated sps frame_num (get_or operations i other) marked ≡ Err fault → all_operated sps frame_num (drop i operations) marked ≡ Err fault
next_fault sps frame_num operations i other marked fault within is =
    next_operated sps frame_num operations i other marked within ∙ ap (λ answer. answer >>= all_operated sps frame_num (drop (i + 1) operations)) is

-- after the last
pub none_left : (sps : Sps) (frame_num : ℕ) (operations : List MemoryManagementControlOperation) (i : ℕ) (marked : Marked) → length operations ≤ i → all_operated sps frame_num (drop i operations) marked ≡ Ok marked
unfolding all_operated
none_left sps frame_num operations i marked past = rw (drop_of_length-le operations past) refl
