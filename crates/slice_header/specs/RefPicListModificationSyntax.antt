-- ref_pic_list_modification() of one list (ITU-T H.264, 7.3.3.1, 7.4.3.1).
use Rattle.std.specs.Prelude.{ℕ, ◌+◌, ◌-◌, ◌==◌, nat_le, Bool, true, false, ◌&&◌, if◌then◌else◌, List, [], ◌∷◌, Option, Some, None, ℤ, nat_abs}
use Rattle.slice_header.specs.declared.fault.HeaderFault.{HeaderFault}
use Rattle.slice_header.specs.declared.fault.HeaderFault.TheVariants.{Value}
use Rattle.h264_types.specs.declared.slice_headers.ref_pic_list_modification.RefPicListModification.{RefPicListModification}
use Rattle.h264_types.specs.declared.slice_headers.ref_pic_list_modification.RefPicListModification.TheVariants.{Subtract, Add, LongTerm}
use Rattle.expgolomb.specs.Rows.{always, flag_of}
use Rattle.slice_header.specs.HeaderRows.{u, ue_of, ue, ue_any}
use Rattle.expgolomb.specs.Structures.{Table, Syntax, Says, Structure, ended}

-- whether there are commands
pub data ModificationFlag : Type 0 where
  RefPicListModificationFlag : ModificationFlag

-- what its value says
abbrev pub take_flag : ModificationFlag → ℤ → Bool → Bool
take_flag RefPicListModificationFlag v s = flag_of v

-- the flag, where the slice has the list
unfoldable pub flag_table : Bool → Table ModificationFlag Bool HeaderFault
flag_table is_there = record {
  take = take_flag;
  rows = u RefPicListModificationFlag 1 (λ s. is_there) ∷ [];
  absent = false;
}

-- one command
pub data CommandField : Type 0 where
  ModificationOfPicNumsIdc : CommandField
  AbsDiffPicNumMinus1 : CommandField
  LongTermPicNum : CommandField

-- the command of a modification_of_pic_nums_idc, before its operand is known; 3 is the end
abbrev pub command_of : ℕ → Option RefPicListModification
command_of idc =
    if idc == 0 then Some (Subtract 0)
    else if idc == 1 then Some (Add 0)
    else if idc == 2 then Some (LongTerm 0)
    else None

-- what a field's value says
abbrev pub take_command : CommandField → ℤ → Option RefPicListModification → Option RefPicListModification
take_command ModificationOfPicNumsIdc v s = command_of (nat_abs v)
take_command AbsDiffPicNumMinus1 v (Some (Subtract n)) = Some (Subtract (nat_abs v))
take_command AbsDiffPicNumMinus1 v (Some (Add n)) = Some (Add (nat_abs v))
take_command LongTermPicNum v (Some (LongTerm n)) = Some (LongTerm (nat_abs v))
take_command field v s = s

-- 0 to 2 while there is room for a command, and 3
abbrev pub idc_range : Bool → ℤ → Option HeaderFault
idc_range has_room v =
    if nat_abs v == 3 then None else if has_room && nat_le (nat_abs v) 2 then None else Some Value

-- commands 0 and 1
abbrev pub has_difference : Option RefPicListModification → Bool
has_difference (Some (Subtract n)) = true
has_difference (Some (Add n)) = true
has_difference s = false

-- command 2
abbrev pub has_long_term_num : Option RefPicListModification → Bool
has_long_term_num (Some (LongTerm n)) = true
has_long_term_num s = false

-- a command or the end; a difference is below MaxFrameNum
unfoldable pub command_table : ℕ → Bool → Table CommandField (Option RefPicListModification) HeaderFault
command_table max_frame_num has_room = record {
  take = take_command;
  rows =
      ue_of ModificationOfPicNumsIdc always (λ s. idc_range has_room)
      ∷ ue AbsDiffPicNumMinus1 has_difference (max_frame_num - 1)
      ∷ ue_any LongTermPicNum has_long_term_num
      ∷ [];
  absent = None;
}

-- the commands where the flag is 1, as many as the list has active entries at most
abbrev pub commands_if : ℕ → ℕ → Bool → Syntax (List RefPicListModification) HeaderFault
commands_if active_minus1 max_frame_num false = Says []
commands_if active_minus1 max_frame_num true = ended (command_table max_frame_num) (active_minus1 + 1) []

-- the modifications of a list of so many active entries less 1, where the slice has it
unfoldable pub modification_syntax : Bool → ℕ → ℕ → Syntax (List RefPicListModification) HeaderFault
modification_syntax is_there active_minus1 max_frame_num =
    Structure (flag_table is_there) (λ flag. commands_if active_minus1 max_frame_num flag)
