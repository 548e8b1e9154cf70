-- The bytes of a whole picture (linux/v4l2-controls.h, enum v4l2_stateless_h264_start_code; ITU-T H.264, annex B).
use Rattle.std.specs.Prelude.{ℕ, List, [], ◌∷◌, length, drop, Option, None, Some}
use Rattle.std.specs.List.{flat_map}
use Rattle.annexb.specs.ByteStream.{start_code}
use Rattle.h264_controls.specs.declared.request.Request.{Request}
use Rattle.frame_requests.specs.declared.joining.StartCode.{StartCode}
use Rattle.frame_requests.specs.declared.joining.StartCode.TheVariants.{Without, AnnexB}

-- the bytes of a slice: its NAL unit after a start code
abbrev pub bytes_of : Request → List ℕ
bytes_of slice = slice.body.bytes

-- those of the slices, one after the other; without start codes the NAL unit of the only slice
abbrev pub frame_bytes : StartCode → List Request → Option (List ℕ)
frame_bytes AnnexB slices = Some (flat_map bytes_of slices)
frame_bytes Without (slice ∷ []) = Some (drop (length start_code) (bytes_of slice))
frame_bytes Without slices = None

-- how many bytes they have with start codes
abbrev pub frame_size : List Request → ℕ
frame_size slices = length (flat_map bytes_of slices)
