-- dec_ref_pic_marking() (ITU-T H.264, 7.3.3.3, 7.4.3.3).
use Rattle.std.specs.Prelude.{ℕ, ◌==◌, nat_le, Bool, true, false, not, ◌&&◌, if◌then◌else◌, List, [], ◌∷◌, Option, Some, None, ℤ, nat_abs}
use Rattle.slice_header.specs.declared.fault.HeaderFault.{HeaderFault}
use Rattle.slice_header.specs.declared.fault.HeaderFault.TheVariants.{Value}
use Rattle.h264_types.specs.declared.slice_headers.dec_ref_pic_marking.DecRefPicMarking.{DecRefPicMarking}
use Rattle.h264_types.specs.declared.slice_headers.dec_ref_pic_marking.DecRefPicMarking.TheVariants.{Idr, SlidingWindow, Adaptive}
use Rattle.h264_types.specs.declared.slice_headers.dec_ref_pic_marking.MemoryManagementControlOperation.{MemoryManagementControlOperation}
use Rattle.h264_types.specs.declared.slice_headers.dec_ref_pic_marking.MemoryManagementControlOperation.TheVariants.{FreeShortTerm, FreeLongTerm, AssignLongTerm, LimitLongTerm, FreeAll, CurrentLongTerm}
use Rattle.h264_types.specs.Operations.{most_operations}
use Rattle.slice_header.specs.declared.marking_syntax.MarkingFlags.{MarkingFlags}
use Rattle.expgolomb.specs.Rows.{always, flag_of}
use Rattle.slice_header.specs.HeaderRows.{u, ue_of, ue_any}
use Rattle.expgolomb.specs.Structures.{Table, Syntax, Says, Structure, followed_by, ended}

-- the flags
pub data MarkingField : Type 0 where
  NoOutputOfPriorPicsFlag : MarkingField
  LongTermReferenceFlag : MarkingField
  AdaptiveRefPicMarkingModeFlag : MarkingField

-- what a field's value says
abbrev pub take_marking : MarkingField → ℤ → MarkingFlags → MarkingFlags
take_marking NoOutputOfPriorPicsFlag v s = record s { no_output_of_prior_pics_flag = flag_of v }
take_marking LongTermReferenceFlag v s = record s { long_term_reference_flag = flag_of v }
take_marking AdaptiveRefPicMarkingModeFlag v s = record s { adaptive_ref_pic_marking_mode_flag = flag_of v }

-- of a picture that is a reference: two flags where it is IDR, else one
unfoldable pub marking_table : Bool → Bool → Table MarkingField MarkingFlags HeaderFault
marking_table is_reference is_idr = record {
  take = take_marking;
  rows =
      u NoOutputOfPriorPicsFlag 1 (λ s. is_reference && is_idr)
      ∷ u LongTermReferenceFlag 1 (λ s. is_reference && is_idr)
      ∷ u AdaptiveRefPicMarkingModeFlag 1 (λ s. is_reference && not is_idr)
      ∷ [];
  absent = record {
    no_output_of_prior_pics_flag = false;
    long_term_reference_flag = false;
    adaptive_ref_pic_marking_mode_flag = false;
  };
}

-- one operation
pub data OperationField : Type 0 where
  OperationCode : OperationField
  DifferenceOfPicNumsMinus1 : OperationField
  LongTermPicNum : OperationField
  LongTermFrameIdx : OperationField
  MaxLongTermFrameIdxPlus1 : OperationField

-- the operation of a memory_management_control_operation, before its operands are known; 0 is the end
abbrev pub operation_of : ℕ → Option MemoryManagementControlOperation
operation_of code =
    if code == 1 then Some (FreeShortTerm 0)
    else if code == 2 then Some (FreeLongTerm 0)
    else if code == 3 then Some (AssignLongTerm 0 0)
    else if code == 4 then Some (LimitLongTerm 0)
    else if code == 5 then Some FreeAll
    else if code == 6 then Some (CurrentLongTerm 0)
    else None

-- what a field's value says
abbrev pub take_operation : OperationField → ℤ → Option MemoryManagementControlOperation → Option MemoryManagementControlOperation
take_operation OperationCode v s = operation_of (nat_abs v)
take_operation DifferenceOfPicNumsMinus1 v (Some (FreeShortTerm n)) = Some (FreeShortTerm (nat_abs v))
take_operation DifferenceOfPicNumsMinus1 v (Some (AssignLongTerm n idx)) = Some (AssignLongTerm (nat_abs v) idx)
take_operation LongTermPicNum v (Some (FreeLongTerm n)) = Some (FreeLongTerm (nat_abs v))
take_operation LongTermFrameIdx v (Some (AssignLongTerm n idx)) = Some (AssignLongTerm n (nat_abs v))
take_operation LongTermFrameIdx v (Some (CurrentLongTerm idx)) = Some (CurrentLongTerm (nat_abs v))
take_operation MaxLongTermFrameIdxPlus1 v (Some (LimitLongTerm n)) = Some (LimitLongTerm (nat_abs v))
take_operation field v s = s

-- 1 to 6 while there is room for an operation, and 0
abbrev pub operation_range : Bool → ℤ → Option HeaderFault
operation_range has_room v =
    if nat_abs v == 0 then None else if has_room && nat_le (nat_abs v) 6 then None else Some Value

-- operations 1 and 3
abbrev pub has_difference : Option MemoryManagementControlOperation → Bool
has_difference (Some (FreeShortTerm n)) = true
has_difference (Some (AssignLongTerm n idx)) = true
has_difference s = false

-- operation 2
abbrev pub has_long_term_num : Option MemoryManagementControlOperation → Bool
has_long_term_num (Some (FreeLongTerm n)) = true
has_long_term_num s = false

-- operations 3 and 6
abbrev pub has_index : Option MemoryManagementControlOperation → Bool
has_index (Some (AssignLongTerm n idx)) = true
has_index (Some (CurrentLongTerm idx)) = true
has_index s = false

-- operation 4
abbrev pub has_limit : Option MemoryManagementControlOperation → Bool
has_limit (Some (LimitLongTerm n)) = true
has_limit s = false

-- an operation or the end
unfoldable pub operation_table : Bool → Table OperationField (Option MemoryManagementControlOperation) HeaderFault
operation_table has_room = record {
  take = take_operation;
  rows =
      ue_of OperationCode always (λ s. operation_range has_room)
      ∷ ue_any DifferenceOfPicNumsMinus1 has_difference
      ∷ ue_any LongTermPicNum has_long_term_num
      ∷ ue_any LongTermFrameIdx has_index
      ∷ ue_any MaxLongTermFrameIdxPlus1 has_limit
      ∷ [];
  absent = None;
}

-- at most 64 operations, and the end
unfoldable pub operations_syntax : Syntax (List MemoryManagementControlOperation) HeaderFault
operations_syntax = ended operation_table most_operations []

-- what the flags of a picture that isn't IDR say
abbrev pub operations_if : Bool → Syntax DecRefPicMarking HeaderFault
operations_if false = Says SlidingWindow
operations_if true = followed_by operations_syntax (λ operations. Says (Adaptive operations))

-- what the flags say
abbrev pub marking_after : Bool → MarkingFlags → Syntax DecRefPicMarking HeaderFault
marking_after true flags = Says (Idr flags.no_output_of_prior_pics_flag flags.long_term_reference_flag)
marking_after false flags = operations_if flags.adaptive_ref_pic_marking_mode_flag

-- the marking of a picture, where it is a reference
unfoldable pub marking_syntax : Bool → Bool → Syntax DecRefPicMarking HeaderFault
marking_syntax is_reference is_idr = Structure (marking_table is_reference is_idr) (λ flags. marking_after is_idr flags)
