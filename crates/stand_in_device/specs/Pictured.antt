-- The picture of an input whose entries have the pictures of keys is that of the key.
use Rattle.std.proofs.Common.{◌≡◌, refl, ap, sym, ◌∙◌, ℕ, List, [], ◌∷◌, ◌++◌, length, take, drop, map, Option, None, Some, append_assoc}
use Rattle.std.proofs.lemmas.List.{append-nil, map-append, length-map}
use Rattle.std.proofs.Math.Seq.{take-append_seam, drop-append_seam}
use Rattle.std.specs.Prelude.{slice_get, option_map, option_and_then}
use Rattle.std.specs.List.{flat_map}
use Rattle.sha2.specs.Sha256.{sha256}
use Rattle.h264_controls.specs.declared.request.Request.{Request}
use Rattle.h264_controls.specs.declared.request.RequestBody.{RequestBody}
use Rattle.h264_controls.specs.DigestForm.{digest_form}
use Rattle.decode_jobs.specs.declared.input.Reference.{Reference}
use Rattle.stand_in_device.specs.declared.picture.Picture.{Picture}
use Rattle.decode_jobs.specs.Inputs.{InputValue, entries_of, picture_of_frame}
use Rattle.stand_in_device.specs.Pictures.{picture_bytes, entry_bytes, size_bytes, slice_record, record_of, picture_of}
use Rattle.decode_jobs.specs.Keys.{Key, bodies_of, unit_named, named_by, named_by_all, tree_with}
use Rattle.stand_in_device.specs.KeyPictures.{body_record, body_records, picture_after, picture_of_key}
use Rattle.decode_jobs.specs.Made.{AreOfEntries, IsClosed, pictures_named}

-- the picture of bodies with these pictures at their entries
abbrev digested : List RequestBody → List (Option Picture) → Picture
digested bodies pictures = record { digest = sha256 (body_records bodies pictures) }

-- the pictures of keys
abbrev shown : List (Option Key) → List (Option Picture)
shown keys = map (option_map picture_of_key) keys

after_entries : (bodies : List RequestBody) (entries : List (Option Key)) (pictures : List (Option Picture))
    → picture_after pictures (tree_with bodies entries) ≡ digested bodies (pictures ++ shown entries)
after_entries bodies [] pictures = ap (digested bodies) (sym (append-nil pictures))
after_entries bodies (None ∷ entries) pictures =
    after_entries bodies entries (pictures ++ None ∷ [])
    ∙ ap (digested bodies) (append_assoc pictures (None ∷ []) (shown entries))
after_entries bodies (Some key ∷ entries) pictures =
    after_entries bodies entries (pictures ++ Some (picture_of_key key) ∷ [])
    ∙ ap (digested bodies) (append_assoc pictures (Some (picture_of_key key) ∷ []) (shown entries))

list_bytes : (references : List (Reference Picture)) (units : List ℕ) (entries : List (Option ℕ))
    → flat_map picture_bytes (map (picture_of_frame references) (map (unit_named units) entries))
    ≡ flat_map (entry_bytes references units) entries
list_bytes references units [] = refl
list_bytes references units (None ∷ entries) =
    ap (λ bytes. picture_bytes None ++ bytes) (list_bytes references units entries)
list_bytes references units (Some index ∷ entries) =
    ap (λ bytes. picture_bytes (picture_of_frame references (slice_get units index)) ++ bytes)
    (list_bytes references units entries)

record_same : (references : List (Reference Picture)) (request : Request)
    → body_record request.body (map (picture_of_frame references) (named_by request)) ≡ record_of references request
unfolding slice_record
record_same references request =
    ap (λ bytes. digest_form request.body.controls ++ size_bytes request.body.bytes ++ request.body.bytes ++ bytes)
    (list_bytes references request.references (entries_of request.body.controls))

cut_front : (body : RequestBody) (bodies : List RequestBody) (n : ℕ) (front rest : List (Option Picture)) → n ≡ length front
    → body_record body (take n (front ++ rest)) ++ body_records bodies (drop n (front ++ rest))
    ≡ body_record body front ++ body_records bodies rest
cut_front body bodies n front rest e =
    rw (e, take-append_seam front rest, drop-append_seam front rest) refl

entries_many : (references : List (Reference Picture)) (request : Request)
    → length (entries_of request.body.controls) ≡ length (map (picture_of_frame references) (named_by request))
entries_many references request =
    rw (length-map (named_by request) (picture_of_frame references), length-map (entries_of request.body.controls) (unit_named request.references)) refl

records_same : (references : List (Reference Picture)) (requests : List Request)
    → body_records (bodies_of requests) (map (picture_of_frame references) (named_by_all requests))
    ≡ flat_map (record_of references) requests
records_same references [] = refl
records_same references (request ∷ requests) =
    rw (map-append (picture_of_frame references) (named_by request) (named_by_all requests))
    (cut_front request.body (bodies_of requests) (length (entries_of request.body.controls))
    (map (picture_of_frame references) (named_by request)) (map (picture_of_frame references) (named_by_all requests))
    (entries_many references request)
    ∙ rw (record_same references request, records_same references requests) refl)

-- the pictures at entries are those of the keys there
are_shown : (pictures : List (Option Picture)) (keys : List (Option Key))
    → AreOfEntries (λ key picture. picture ≡ picture_of_key key) pictures keys → pictures ≡ shown keys
are_shown [] [] are = refl
are_shown [] (key ∷ keys) are = absurd are
are_shown (picture ∷ pictures) [] are = absurd are
are_shown (None ∷ pictures) (None ∷ keys) are = ap (λ rest. None ∷ rest) (are_shown pictures keys are.1)
are_shown (None ∷ pictures) (Some key ∷ keys) are = absurd are.0
are_shown (Some picture ∷ pictures) (None ∷ keys) are = absurd are.0
are_shown (Some picture ∷ pictures) (Some key ∷ keys) are =
    ap (λ p. Some p ∷ pictures) are.0 ∙ ap (λ rest. Some (picture_of_key key) ∷ rest) (are_shown pictures keys are.1)

pub picture_closed : IsClosed (λ input picture. picture ≡ picture_of input) (λ key picture. picture ≡ picture_of_key key)
unfolding picture_of
picture_closed keys input picture are decoded =
    decoded
    ∙ sym (after_entries (bodies_of input.requests) keys []
    ∙ ap (digested (bodies_of input.requests)) (sym (are_shown (pictures_named input) keys are))
    ∙ ap (λ bytes. record { digest = sha256 bytes }) (records_same input.references input.requests))
