-- slice_type: which lists a slice has (ITU-T H.264, table 7-6).
use Rattle.std.specs.Prelude.{ℕ, ◌%◌, ◌==◌, Bool, true, false, if◌then◌else◌}
use Rattle.h264_types.specs.declared.slice_headers.slice_types.SliceType.{SliceType}
use Rattle.h264_types.specs.declared.slice_headers.slice_types.SliceType.TheVariants.{P, B, I, Sp, Si}

-- the type of a code from 0 to 9
abbrev pub slice_type_of : ℕ → SliceType
slice_type_of code =
    if code % 5 == 0 then P
    else if code % 5 == 1 then B
    else if code % 5 == 2 then I
    else if code % 5 == 3 then Sp
    else Si

-- whether the slice is a P slice
abbrev pub is_p : SliceType → Bool
is_p P = true
is_p t = false

-- a B slice
abbrev pub is_b : SliceType → Bool
is_b B = true
is_b t = false

-- an I slice
abbrev pub is_i : SliceType → Bool
is_i I = true
is_i t = false

-- whether the slice has list 0; of the types that are decoded
abbrev pub has_list : SliceType → Bool
has_list P = true
has_list B = true
has_list t = false
