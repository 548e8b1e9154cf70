-- The slice header of a unit, or what the unit shows instead.
use Rattle.std.specs.Prelude.{◌≡◌, ℕ, List, Result, Ok, Err}
use Rattle.expgolomb.specs.Bits.{Place}
use Rattle.annexb.specs.NalUnit.{nal_ref_idc, nal_unit_type}
use Rattle.h264_types.specs.declared.param_sets.sps.Sps.{Sps}
use Rattle.h264_types.specs.declared.param_sets.pps.Pps.{Pps}
use Rattle.slice_header.specs.declared.fault.HeaderFault.{HeaderFault}
use Rattle.h264_types.specs.declared.slice_headers.slice_headers.SliceHeader.{SliceHeader}
use Rattle.slice_header.specs.HeaderAnswer.{Refuses}
use Rattle.slice_header.specs.Fronts.{unit_bits, read_value}
use Rattle.slice_header.specs.SliceHeaderSyntax.{header_syntax}
use Rattle.expgolomb.specs.Structures.{Syntax, HasSyntax, SyntaxHasFault, syntax_at}

-- the syntax of the unit's header
abbrev pub syntax_of : List ℕ → Sps → Pps → Syntax SliceHeader HeaderFault
syntax_of unit sps pps = header_syntax (nal_ref_idc unit) (nal_unit_type unit) sps pps

-- the unit has this slice header
pub record IsSliceHeader (unit : List ℕ) (sps : Sps) (pps : Pps) (header : SliceHeader) : Type 0 where
  pub after : Place
  pub fields : HasSyntax (syntax_of unit sps pps) (unit_bits unit) header after

-- the first field of the unit's slice header that shows a fault shows this one
abbrev pub HeaderHasFault : List ℕ → Sps → Pps → HeaderFault → Type 0
HeaderHasFault unit sps pps fault = SyntaxHasFault (syntax_of unit sps pps) (unit_bits unit) fault

-- the header as a function of the unit
unfoldable pub header_at : List ℕ → Sps → Pps → Result SliceHeader HeaderFault
header_at unit sps pps = read_value (syntax_at (syntax_of unit sps pps) (unit_bits unit))

-- a call answers what reading gives, unless memory ran out
abbrev pub Answers : {A : Type 0} → Result A HeaderFault → Result A HeaderFault → Type 0
Answers (Ok x) read = read ≡ Ok x
Answers (Err e) read = Refuses e read
