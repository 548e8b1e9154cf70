-- NAL units of H.264 after their lengths in four bytes (ISO/IEC 14496-15, 5.3.3; ITU-T H.264, 7.3.1 and 7.4.1).
use Rattle.std.specs.Prelude.{ℕ, zero, ◌+◌, ◌*◌, ◌/◌, ◌%◌, Bool, false, ◌&&◌, ◌||◌, ◌==◌, nat_le, nat_lt, List, [], ◌∷◌, drop, Option, None, Some, if◌then◌else◌}

-- the first byte of a slice (1, 5), a parameter set (7, 8), supplemental enhancement information (6) or a delimiter (9): its top
-- bit is 0, and nal_ref_idc is 0 where it has to be, and not where it must not
abbrev pub header_fits : ℕ → Bool
header_fits header =
    let nal_ref_idc = header / 32 in
    let nal_unit_type = header % 32 in
    (nal_unit_type == 1 && nat_lt nal_ref_idc 4)
    || ((nal_unit_type == 5 || nal_unit_type == 7 || nal_unit_type == 8) && (nat_lt 0 nal_ref_idc && nat_lt nal_ref_idc 4))
    || ((nal_unit_type == 6 || nal_unit_type == 9) && nal_ref_idc == 0)

-- where a NAL unit of two bytes or more ends that the bytes begin with, after its length, which is less than 16,777,216
abbrev pub unit_end : List ℕ → Option ℕ
unit_end (zero ∷ high ∷ middle ∷ low ∷ header ∷ bytes) =
    let len = high * 65536 + middle * 256 + low in
    if nat_le 2 len && header_fits header then Some (4 + len) else None
unit_end bytes = None

-- there is such a NAL unit
abbrev pub begins_unit : List ℕ → Bool
begins_unit bytes = elim (unit_end bytes) [ None ↦ false | Some end ↦ Bool.true ]

-- there is one, and another stands right after it
abbrev pub is_length_prefixed : List ℕ → Bool
is_length_prefixed bytes = elim (unit_end bytes) [ None ↦ false | Some end ↦ begins_unit (drop end bytes) ]
