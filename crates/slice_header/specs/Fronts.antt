-- The first fields of a unit's slice header, which are read without parameter sets (ITU-T H.264, 7.3.3).
use Rattle.std.specs.Prelude.{ℕ, List, Option, Some, None, Result, Ok, Err}
use Rattle.expgolomb.specs.Bits.{Place}
use Rattle.annexb.specs.EmulationPrevention.{payload_of}
use Rattle.expgolomb.specs.Ranges.{any}
use Rattle.expgolomb.specs.Payloads.{after_first}
use Rattle.slice_header.specs.declared.fault.HeaderFault.{HeaderFault}
use Rattle.slice_header.specs.declared.front.HeaderFront.{HeaderFront}
use Rattle.h264_types.specs.declared.slice_headers.slice_types.SliceType.{SliceType}
use Rattle.slice_header.specs.FrontSyntax.{front_table, no_front, take_front, type_table}
use Rattle.expgolomb.specs.Grammar.{HasFault}
use Rattle.expgolomb.specs.Structures.{HasTable, table_at}

-- the bits of a unit after its first byte, without emulation prevention
abbrev pub unit_bits : List ℕ → Place
unit_bits unit = after_first (payload_of unit)

-- the unit's slice header begins with these fields; first_mb_in_slice has any value
pub record IsFront (unit : List ℕ) (front : HeaderFront) : Type 0 where
  pub after : Place
  pub fields : HasTable (front_table any) (unit_bits unit) front after

-- the first of these fields that shows a fault shows this one
abbrev pub FrontHasFault : List ℕ → HeaderFault → Type 0
FrontHasFault unit fault = HasFault take_front (front_table any).rows no_front (unit_bits unit) fault

-- what was read, without the place after it
abbrev pub read_value : {A E : Type 0} → Result (A × Place) E → Result A E
read_value (Ok x) = Ok x.0
read_value (Err e) = Err e

-- the first three fields as a function of the unit; first_mb_in_slice has any value
unfoldable pub front_at : List ℕ → Result HeaderFront HeaderFault
front_at unit = read_value (table_at (front_table any) (unit_bits unit))

-- the type of a slice whose first two fields can be read, whatever follows
abbrev pub type_of : Result (HeaderFront × Place) HeaderFault → Option SliceType
type_of (Ok x) = Some x.0.slice_type
type_of (Err e) = None

-- the same as a function of the unit
unfoldable pub slice_type_at : List ℕ → Option SliceType
slice_type_at unit = type_of (table_at (type_table any) (unit_bits unit))
