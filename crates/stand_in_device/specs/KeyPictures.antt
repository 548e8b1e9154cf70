-- The picture of a key, by the stand-in device: the digest of the key's bodies and of its
-- references' pictures.
use Rattle.std.specs.Prelude.{◌≡◌, ℕ, List, [], ◌∷◌, ◌++◌, length, take, drop, map, Option, None, Some, option_map, option_and_then}
use Rattle.std.specs.List.{flat_map}
use Rattle.sha2.specs.Sha256.{sha256}
use Rattle.h264_controls.specs.declared.request.RequestBody.{RequestBody}
use Rattle.h264_controls.specs.DigestForm.{digest_form}
use Rattle.decode_jobs.specs.Trees.Tree.{Bare, Gap, With}
use Rattle.stand_in_device.specs.declared.picture.Picture.{Picture}
use Rattle.decode_jobs.specs.Inputs.{InputValue, entries_of}
use Rattle.stand_in_device.specs.Pictures.{picture_bytes, picture_of, size_bytes}
use Rattle.decode_jobs.specs.Keys.{Key}

-- the record of a slice: its controls, its bytes after their number, and the pictures at the
-- entries of its lists
abbrev pub body_record : RequestBody → List (Option Picture) → List ℕ
body_record body pictures =
    digest_form body.controls ++ size_bytes body.bytes ++ body.bytes ++ flat_map picture_bytes pictures

-- the records of slices, with the pictures at the entries of their lists, slice by slice
abbrev pub body_records : List RequestBody → List (Option Picture) → List ℕ
body_records [] pictures = []
body_records (body ∷ bodies) pictures =
    body_record body (take (length (entries_of body.controls)) pictures)
    ++ body_records bodies (drop (length (entries_of body.controls)) pictures)

-- the picture of a key, after the pictures at the entries in front of it
abbrev pub picture_after : List (Option Picture) → Key → Picture
picture_after pictures (Bare bodies) = record { digest = sha256 (body_records bodies pictures) }
picture_after pictures (Gap rest) = picture_after (pictures ++ None ∷ []) rest
picture_after pictures (With first rest) = picture_after (pictures ++ Some (picture_after [] first) ∷ []) rest

-- the picture of a key
abbrev pub picture_of_key : Key → Picture
picture_of_key key = picture_after [] key

-- the picture is that of the key
abbrev pub IsPicture : Key → Picture → Type 0
IsPicture key picture = picture ≡ picture_of_key key

-- the device makes the picture of the input
abbrev pub IsMade : InputValue Picture → Picture → Type 0
IsMade input picture = picture ≡ picture_of input
