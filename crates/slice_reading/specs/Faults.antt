-- What keeps the slices of a unit from being those of one picture (ITU-T H.264, 7.4.1.2.4).
use Rattle.std.specs.Prelude.{ℕ, ◌==◌, nat_lt, Bool, true, false, not, ◌&&◌, List, [], ◌∷◌, Option, None, Some, if◌then◌else◌}
use Rattle.std.specs.Bool.{beq}
use Rattle.std.specs.Ordering.{int_eq}
use Rattle.std.specs.List.{list_any}
use lib.Pointwise.{pointwise}
use Rattle.h264_types.specs.declared.slice_headers.dec_ref_pic_marking.DecRefPicMarking.{DecRefPicMarking}
use Rattle.h264_types.specs.declared.slice_headers.dec_ref_pic_marking.DecRefPicMarking.TheVariants.{Idr, SlidingWindow, Adaptive}
use Rattle.h264_types.specs.declared.slice_headers.dec_ref_pic_marking.MemoryManagementControlOperation.{MemoryManagementControlOperation}
use Rattle.h264_types.specs.declared.slice_headers.dec_ref_pic_marking.MemoryManagementControlOperation.TheVariants.{FreeShortTerm, FreeLongTerm, AssignLongTerm, LimitLongTerm, FreeAll, CurrentLongTerm}
use Rattle.unit_outcomes.specs.declared.validity_fault.ValidityFault.{ValidityFault}
use Rattle.unit_outcomes.specs.declared.validity_fault.ValidityFault.TheVariants.{Redundant, SliceOrder, SliceMismatch}
use Rattle.slice_reading.specs.Slices.{SliceRead}

-- a fault, and whether it is shown
abbrev pub Row : Type 0
Row = ValidityFault × Bool

-- the first fault that is shown
abbrev pub first_shown : List Row → Option ValidityFault
first_shown [] = None
first_shown ((fault, shown) ∷ rows) = if shown then Some fault else first_shown rows

-- redundant_pic_cnt isn't 0
abbrev pub is_redundant : SliceRead → Bool
is_redundant slice = not (slice.header.redundant_pic_cnt == 0)

-- first_mb_in_slice rises from slice to slice
abbrev pub rises_from : ℕ → List SliceRead → Bool
rises_from last [] = true
rises_from last (slice ∷ slices) =
    nat_lt last slice.header.first_mb_in_slice && rises_from slice.header.first_mb_in_slice slices

-- the same operation with the same operands
abbrev pub same_operation : MemoryManagementControlOperation → MemoryManagementControlOperation → Bool
same_operation (FreeShortTerm a) (FreeShortTerm b) = a == b
same_operation (FreeLongTerm a) (FreeLongTerm b) = a == b
same_operation (AssignLongTerm a i) (AssignLongTerm b j) = a == b && i == j
same_operation (LimitLongTerm a) (LimitLongTerm b) = a == b
same_operation FreeAll FreeAll = true
same_operation (CurrentLongTerm i) (CurrentLongTerm j) = i == j
same_operation a b = false

-- the same dec_ref_pic_marking
abbrev pub same_marking : DecRefPicMarking → DecRefPicMarking → Bool
same_marking (Idr no_output long_term) (Idr no_output' long_term') = beq no_output no_output' && beq long_term long_term'
same_marking SlidingWindow SlidingWindow = true
same_marking (Adaptive operations) (Adaptive operations') = pointwise same_operation operations operations'
same_marking a b = false

-- two slices agree in what the slices of a picture share
abbrev pub same_picture : SliceRead → SliceRead → Bool
same_picture a b =
    a.sps.seq_parameter_set_id == b.sps.seq_parameter_set_id
    && a.header.frame_num == b.header.frame_num
    && a.header.idr_pic_id == b.header.idr_pic_id
    && a.header.pic_order_cnt_lsb == b.header.pic_order_cnt_lsb
    && int_eq a.header.delta_pic_order_cnt_bottom b.header.delta_pic_order_cnt_bottom
    && int_eq a.header.delta_pic_order_cnt0 b.header.delta_pic_order_cnt0
    && int_eq a.header.delta_pic_order_cnt1 b.header.delta_pic_order_cnt1
    && same_marking a.header.dec_ref_pic_marking b.header.dec_ref_pic_marking

-- the slices by themselves
abbrev pub slice_rows : SliceRead → List SliceRead → List Row
slice_rows first others =
    (Redundant, list_any is_redundant (first ∷ others))
    ∷ (SliceOrder, not (first.header.first_mb_in_slice == 0 && rises_from 0 others))
    ∷ (SliceMismatch, list_any (λ other. not (same_picture first other)) others)
    ∷ []
