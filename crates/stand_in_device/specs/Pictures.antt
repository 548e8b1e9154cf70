-- The picture of the stand-in device: the SHA-256 of records, one for each request.
use Rattle.std.specs.Prelude.{ℕ, List, ◌++◌, length, replicate, Option, None, Some, slice_get}
use Rattle.std.specs.List.{flat_map}
use Rattle.std.specs.Int.{w64, to_le_bytes}
use Rattle.sha2.specs.Sha256.{sha256}
use Rattle.h264_controls.specs.declared.controls.Controls.{Controls}
use Rattle.h264_controls.specs.declared.request.Request.{Request}
use Rattle.h264_controls.specs.DigestForm.{digest_form}
use Rattle.decode_jobs.specs.declared.input.Reference.{Reference}
use Rattle.stand_in_device.specs.declared.picture.Picture.{Picture}
use Rattle.decode_jobs.specs.Inputs.{InputValue, entries_of, picture_of_frame}

-- the bytes of a picture, or as many zeros where there is none
abbrev pub picture_bytes : Option Picture → List ℕ
picture_bytes None = replicate 32 0
picture_bytes (Some picture) = picture.digest

-- the picture of the frame that an entry of a list names; zeros for a missing entry
abbrev pub entry_bytes : List (Reference Picture) → List ℕ → Option ℕ → List ℕ
entry_bytes references units None = picture_bytes None
entry_bytes references units (Some index) = picture_bytes (picture_of_frame references (slice_get units index))

-- the number of bytes, in 8 bytes, little-endian
unfoldable pub size_bytes : List ℕ → List ℕ
size_bytes bytes = to_le_bytes w64 (length bytes)

-- the record of a slice: its controls, its bytes after their number, and the pictures of the entries of both lists
unfoldable pub slice_record : List (Reference Picture) → Controls → List ℕ → List ℕ → List ℕ
slice_record references controls units bytes =
    digest_form controls
    ++ size_bytes bytes
    ++ bytes
    ++ flat_map (entry_bytes references units) (entries_of controls)

-- the record of a request
abbrev pub record_of : List (Reference Picture) → Request → List ℕ
record_of references request =
    slice_record references request.body.controls request.references request.body.bytes

-- the picture: the digest of the records, one after the other
unfoldable pub picture_of : InputValue Picture → Picture
picture_of input = record { digest = sha256 (flat_map (record_of input.references) input.requests) }
