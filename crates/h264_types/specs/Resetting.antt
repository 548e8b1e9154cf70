-- Memory management control operation 5, after which counting begins anew (ITU-T H.264, 7.4.3.3 and 8.2.1).
use Rattle.std.specs.Prelude.{Bool, true, false, ◌-ℤ◌, if◌then◌else◌}
use Rattle.std.specs.List.{list_any}
use Rattle.h264_types.specs.declared.slice_headers.slice_headers.SliceHeader.{SliceHeader}
use Rattle.h264_types.specs.declared.slice_headers.dec_ref_pic_marking.DecRefPicMarking.{DecRefPicMarking}
use Rattle.h264_types.specs.declared.slice_headers.dec_ref_pic_marking.DecRefPicMarking.TheVariants.{Adaptive}
use Rattle.h264_types.specs.declared.slice_headers.dec_ref_pic_marking.MemoryManagementControlOperation.{MemoryManagementControlOperation}
use Rattle.h264_types.specs.declared.slice_headers.dec_ref_pic_marking.MemoryManagementControlOperation.TheVariants.{FreeAll}
use Rattle.h264_types.specs.declared.pictures.counts.Counts.{Counts}
use Rattle.h264_types.specs.PicOrderCnt.{pic_order_cnt}

-- memory_management_control_operation is 5
abbrev pub is_five : MemoryManagementControlOperation → Bool
is_five FreeAll = true
is_five operation = false

-- operation 5 is among the operations
abbrev pub marks_five : DecRefPicMarking → Bool
marks_five (Adaptive operations) = list_any is_five operations
marks_five marking = false

-- the picture has operation 5
unfoldable pub has_operation_five : SliceHeader → Bool
has_operation_five header = marks_five header.dec_ref_pic_marking

-- The counts that are kept of the picture once it is decoded: tempPicOrderCnt is taken from both where operation 5
-- stands (8.2.1).
unfoldable pub counts_after_reset : SliceHeader → Counts → Counts
counts_after_reset header counts =
    if has_operation_five header
    then record { top = counts.top -ℤ pic_order_cnt counts; bottom = counts.bottom -ℤ pic_order_cnt counts }
    else counts
