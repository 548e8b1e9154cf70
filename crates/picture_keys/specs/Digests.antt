-- The digests that are kept beside units and outcomes.
use Rattle.std.specs.Prelude.{◌≡◌, ℕ, List, length, map, filter}
use Rattle.annexb.specs.ByteStream.{joined}
use Rattle.annexb.specs.NalUnit.{is_slice}
use Rattle.h264_controls.specs.declared.request.Request.{Request}
use Rattle.unit_outcomes.specs.declared.outcome.Outcome.{Outcome}
use Rattle.unit_outcomes.specs.declared.outcome.Outcome.TheVariants.{Plan, Fault, Empty}
use Rattle.picture_keys.specs.SliceBytes.{coded, slices_digest}

-- the digest of the slices of these NAL units
abbrev pub unit_digest : List (List ℕ) → List ℕ
unit_digest units = slices_digest (map coded (filter is_slice units))

-- how many bytes the slices of these NAL units have, with their start codes
abbrev pub slice_bytes : List (List ℕ) → ℕ
slice_bytes units = length (joined (filter is_slice units))

-- the digest is that of these NAL units' slices, and so many bytes were hashed for it: each byte of
-- the slices once
pub record IsHashed (units : List (List ℕ)) (digest : List ℕ) (hashed : ℕ) : Type 0 where
  pub digest_is : digest ≡ unit_digest units
  pub hashed_is : hashed ≡ slice_bytes units

-- the bytes of the slices of requests
abbrev pub bytes_of : List Request → List (List ℕ)
bytes_of requests = map (λ body. body.bytes) (map (λ request. request.body) requests)

-- the digest is that of the slices of an outcome's requests, if it has any
abbrev pub IsDigestOf : Outcome → List ℕ → Type 0
IsDigestOf (Plan plan) digest = digest ≡ slices_digest (bytes_of plan.requests)
IsDigestOf (Fault fault) digest = Unit {0}
IsDigestOf Empty digest = Unit {0}
