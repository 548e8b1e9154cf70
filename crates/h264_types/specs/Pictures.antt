-- What a slice header says of its picture (ITU-T H.264, 7.4.1).
use Rattle.std.specs.Prelude.{◌==◌, Bool, not}
use Rattle.h264_types.specs.declared.slice_headers.slice_headers.SliceHeader.{SliceHeader}

-- IdrPicFlag: nal_unit_type is 5
abbrev pub is_idr : SliceHeader → Bool
is_idr header = header.nal_unit_type == 5

-- a reference picture: nal_ref_idc isn't 0
abbrev pub is_reference : SliceHeader → Bool
is_reference header = not (header.nal_ref_idc == 0)
