-- The units that a picture may refer to, and their timestamps (struct v4l2_h264_dpb_entry, reference_ts).
use Rattle.std.specs.Prelude.{ℕ, ◌*◌, List, [], map, if◌then◌else◌}
use Rattle.h264_types.specs.declared.slice_headers.slice_headers.SliceHeader.{SliceHeader}
use Rattle.h264_types.specs.Pictures.{is_idr}
use Rattle.h264_types.specs.declared.pictures.frames.Frame.{Frame}

-- the timestamp of a unit, in nanoseconds
abbrev pub timestamp : ℕ → ℕ
timestamp id = 1000 * id

-- the units of the marked frames, in decode order as the decoded picture buffer; none at an IDR picture
abbrev pub references : List Frame → SliceHeader → List ℕ
references frames header = if is_idr header then [] else map (λ frame. frame.id) frames
