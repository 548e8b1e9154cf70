-- Where the marked frames have the same keys, so do the pictures that refer to them.
use Rattle.std.proofs.Common.{◌≡◌, ℕ, zero, suc, Bool, true, false, List, [], ◌∷◌, ◌++◌, map, All, Option, None, Some, refl, ap, sym, ◌∙◌, if◌then◌else◌}
use Rattle.std.specs.Prelude.{◌==◌, slice_get, option_and_then}
use Rattle.std.proofs.lemmas.List.{map-append}
use Rattle.std.proofs.lemmas.Bool.{eq-eqb}
use Rattle.std.proofs.lemmas.List.Elements.{All-nil, All-cons, All-head, All-tail, All-weaker}
use Rattle.h264_types.specs.Pictures.{is_idr}
use Rattle.h264_types.specs.declared.slice_headers.slice_headers.SliceHeader.{SliceHeader}
use Rattle.h264_types.specs.declared.pictures.counts.Counts.{Counts}
use Rattle.h264_types.specs.declared.pictures.frames.Frame.{Frame}
use Rattle.h264_controls.specs.declared.request.Request.{Request}
use Rattle.h264_controls.specs.References.{references}
use Rattle.decode_jobs.specs.Inputs.{entries_of}
use Rattle.request_core.specs.Requests.{ListedSlice, request_of, requests_of}
use Rattle.decode_jobs.specs.Keys.{Key, bodies_of, unit_named, named_by, named_by_all, tree_with}
use Rattle.picture_keys.specs.Known.{Known, key_at, key_of, known_with}

-- the key of a unit is the same in both
abbrev pub IsAlike : Known → Known → ℕ → Type 0
IsAlike known other id = key_at known id ≡ key_at other id

-- the keys of the units of frames are
abbrev pub AreAlike : Known → Known → List Frame → Type 0
AreAlike known other frames = All (λ frame. IsAlike known other frame.id) frames

-- the keys at frames, one by one
abbrev pub keys_at : Known → List Frame → List (Option Key)
keys_at known frames = map (λ frame. key_at known frame.id) frames

pub alike_from_keys : (known other : Known) (frames : List Frame) → keys_at known frames ≡ keys_at other frames → AreAlike known other frames
alike_from_keys known other [] same = All-nil (λ (frame : Frame). IsAlike known other frame.id)
alike_from_keys known other (frame ∷ frames) same =
    let first : key_at known frame.id ≡ key_at other frame.id = cc in
    let rest : keys_at known frames ≡ keys_at other frames = cc in
    All-cons (λ (frame : Frame). IsAlike known other frame.id) frame frames first (alike_from_keys known other frames rest)

pub keys_from_alike : (known other : Known) (frames : List Frame) → AreAlike known other frames → keys_at known frames ≡ keys_at other frames
keys_from_alike known other [] all = refl
keys_from_alike known other (frame ∷ frames) all =
    let first = All-head (λ (frame : Frame). IsAlike known other frame.id) frame frames all in
    let rest = keys_from_alike known other frames (All-tail (λ (frame : Frame). IsAlike known other frame.id) frame frames all) in
    ap (λ (key : Option Key). key ∷ keys_at known frames) first ∙ ap (λ (keys : List (Option Key)). key_at other frame.id ∷ keys) rest

chosen : {A : Type 0} (test : Bool) (first second : A) (one two : Option A) → first ≡ second → one ≡ two
    → ◌≡◌ {A = Option A} (if test then Some first else one) (if test then Some second else two)
chosen true first second one two same rest = ap Some same
chosen false first second one two same rest = rest

-- one key more, the same in both
pub alike_more : (known other : Known) (id : ℕ) (first second : Key) (unit : ℕ) → first ≡ second → IsAlike known other unit
    → IsAlike (known_with known id (Some first)) (known_with other id (Some second)) unit
alike_more known other id first second unit same alike = chosen (id == unit) first second (key_at known unit) (key_at other unit) same alike

pub all_alike_more : (known other : Known) (id : ℕ) (first second : Key) (frames : List Frame) → first ≡ second → AreAlike known other frames
    → AreAlike (known_with known id (Some first)) (known_with other id (Some second)) frames
all_alike_more known other id first second frames same all =
    All-weaker (λ (frame : Frame). IsAlike known other frame.id)
    (λ (frame : Frame). IsAlike (known_with known id (Some first)) (known_with other id (Some second)) frame.id)
    (λ frame alike. alike_more known other id first second frame.id same alike) frames all

own : {A : Type 0} (test : Bool) (first second : A) (one two : Option A) → test ≡ true → first ≡ second
    → ◌≡◌ {A = Option A} (if test then Some first else one) (if test then Some second else two)
own true first second one two is same = ap Some same
own false first second one two is same = absurd cc

-- and that of the unit itself
pub alike_own : (known other : Known) (id : ℕ) (first second : Key) → first ≡ second
    → IsAlike (known_with known id (Some first)) (known_with other id (Some second)) id
alike_own known other id first second same = own (id == id) first second (key_at known id) (key_at other id) (eq-eqb id id refl) same

-- the key of a unit that is named, if one is
abbrev key_named : Known → Option ℕ → Option Key
key_named known unit = option_and_then (key_at known) unit

module _ (known other : Known) where
  frame_alike : (frames : List Frame) (index : ℕ) → AreAlike known other frames
      → key_named known (slice_get (map (λ frame. frame.id) frames) index) ≡ key_named other (slice_get (map (λ frame. frame.id) frames) index)
  frame_alike [] index all = refl
  frame_alike (frame ∷ frames) zero all = All-head (λ (frame : Frame). IsAlike known other frame.id) frame frames all
  frame_alike (frame ∷ frames) (suc index) all =
      frame_alike frames index (All-tail (λ (frame : Frame). IsAlike known other frame.id) frame frames all)

  index_alike : (frames : List Frame) (idr : Bool) (index : ℕ) → AreAlike known other frames
      → key_named known (slice_get (if idr then [] else map (λ frame. frame.id) frames) index)
      ≡ key_named other (slice_get (if idr then [] else map (λ frame. frame.id) frames) index)
  index_alike frames true index all = refl
  index_alike frames false index all = frame_alike frames index all

  module _ (frames : List Frame) (all : AreAlike known other frames) where
    entry_alike : (header : SliceHeader) (entry : Option ℕ)
        → key_named known (unit_named (references frames header) entry) ≡ key_named other (unit_named (references frames header) entry)
    entry_alike header None = refl
    entry_alike header (Some index) = index_alike frames (is_idr header) index all

    entries_alike : (header : SliceHeader) (entries : List (Option ℕ))
        → map (key_named known) (map (unit_named (references frames header)) entries)
        ≡ map (key_named other) (map (unit_named (references frames header)) entries)
    entries_alike header [] = refl
    entries_alike header (entry ∷ entries) =
        rw (entry_alike header entry, entries_alike header entries) refl

    module _ (counts : Counts) (id : ℕ) where
      request_alike : (slice : ListedSlice) (hold : Bool)
          → map (key_named known) (named_by (request_of frames counts id slice hold))
          ≡ map (key_named other) (named_by (request_of frames counts id slice hold))
      request_alike slice hold =
          entries_alike slice.slice.header (entries_of (request_of frames counts id slice hold).body.controls)

      joined_alike : (request : Request) (requests : List Request)
          → map (key_named known) (named_by request) ≡ map (key_named other) (named_by request)
          → map (key_named known) (named_by_all requests) ≡ map (key_named other) (named_by_all requests)
          → map (key_named known) (named_by_all (request ∷ requests)) ≡ map (key_named other) (named_by_all (request ∷ requests))
      joined_alike request requests first rest =
          map-append (key_named known) (named_by request) (named_by_all requests)
          ∙ (ap (λ (keys : List (Option Key)). keys ++ map (key_named known) (named_by_all requests)) first
          ∙ (ap (λ (keys : List (Option Key)). map (key_named other) (named_by request) ++ keys) rest
          ∙ sym (map-append (key_named other) (named_by request) (named_by_all requests))))

      named_alike : (slices : List ListedSlice)
          → map (key_named known) (named_by_all (requests_of frames counts id slices))
          ≡ map (key_named other) (named_by_all (requests_of frames counts id slices))
      named_alike [] = refl
      named_alike (last ∷ []) =
          joined_alike (request_of frames counts id last false) [] (request_alike last false) refl
      named_alike (first ∷ second ∷ more) =
          joined_alike (request_of frames counts id first true) (requests_of frames counts id (second ∷ more))
          (request_alike first true) (named_alike (second ∷ more))

      -- the key of the picture
      pub key_alike : (slices : List ListedSlice) → key_of known (requests_of frames counts id slices) ≡ key_of other (requests_of frames counts id slices)
      key_alike slices =
          ap (λ (keys : List (Option Key)). tree_with (bodies_of (requests_of frames counts id slices)) keys) (named_alike slices)
