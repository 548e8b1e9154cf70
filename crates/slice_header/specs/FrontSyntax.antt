-- The first fields of a slice header, for which no parameter set is needed (ITU-T H.264, 7.3.3, 7.4.3).
use Rattle.std.specs.Prelude.{[], ◌∷◌, Option, ℤ, nat_abs}
use Rattle.slice_header.specs.declared.fault.HeaderFault.{HeaderFault}
use Rattle.slice_header.specs.declared.front.HeaderFront.{HeaderFront}
use Rattle.h264_types.specs.declared.slice_headers.slice_types.SliceType.TheVariants.{P}
use Rattle.expgolomb.specs.Grammar.{Row}
use Rattle.expgolomb.specs.Rows.{always}
use Rattle.slice_header.specs.HeaderRows.{ue, ue_of}
use Rattle.h264_types.specs.SliceTypes.{slice_type_of}
use Rattle.expgolomb.specs.Structures.{Table}

-- the fields, in the standard's names
pub data FrontField : Type 0 where
  FirstMbInSlice : FrontField
  SliceTypeCode : FrontField
  PicParameterSetId : FrontField

-- before the first field
abbrev pub no_front : HeaderFront
no_front = record { first_mb_in_slice = 0; slice_type = P; pic_parameter_set_id = 0 }

-- what a field's value says
abbrev pub take_front : FrontField → ℤ → HeaderFront → HeaderFront
take_front FirstMbInSlice v s = record s { first_mb_in_slice = nat_abs v }
take_front SliceTypeCode v s = record s { slice_type = slice_type_of (nat_abs v) }
take_front PicParameterSetId v s = record s { pic_parameter_set_id = nat_abs v }

-- a row of these fields
abbrev pub FrontRow : Type 0
FrontRow = Row FrontField HeaderFront HeaderFault

-- first_mb_in_slice with its range
abbrev pub first_mb_row : (ℤ → Option HeaderFault) → FrontRow
first_mb_row range = ue_of FirstMbInSlice always (λ s. range)

-- slice_type, 0 to 9
abbrev pub slice_type_row : FrontRow
slice_type_row = ue SliceTypeCode always 9

-- pic_parameter_set_id, 0 to 255
abbrev pub parameter_set_row : FrontRow
parameter_set_row = ue PicParameterSetId always 255

-- the first three fields
abbrev pub front_table : (ℤ → Option HeaderFault) → Table FrontField HeaderFront HeaderFault
front_table range = record {
  take = take_front;
  rows = first_mb_row range ∷ slice_type_row ∷ parameter_set_row ∷ [];
  absent = no_front;
}

-- the first two
abbrev pub type_table : (ℤ → Option HeaderFault) → Table FrontField HeaderFront HeaderFault
type_table range = record {
  take = take_front;
  rows = first_mb_row range ∷ slice_type_row ∷ [];
  absent = no_front;
}
