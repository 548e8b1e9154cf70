-- What the slice_digest on a slice does to the digest of its frame.
use Rattle.std.specs.Prelude.{◌≡◌, ℕ, List, ◌++◌, true, false}
use Rattle.sha2.specs.Hashers.{Holds256}
use Rattle.stand_in_device.specs.Given.{Given}
use Rattle.stand_in_device.specs.declared.slice_digest.SliceControls.{SliceControls}
use Rattle.stand_in_device.specs.declared.slice_digest.SliceDigest.{SliceDigest}
use Rattle.stand_in_device.specs.Pictures.{slice_record}

-- the record of a slice that is given
abbrev pub given_record : SliceDigest → Given SliceControls → List ℕ
given_record slice_digest given =
    slice_record slice_digest.frames.items given.controls.body.controls given.controls.references given.bytes

-- the record of the slice is added to what was hashed of its frame, or is the first of it; the finished frames stay
pub record Adds (before : SliceDigest) (given : Given SliceControls) (after : SliceDigest) : Type 0 where
  pub first : given.target.begins ≡ true → Holds256 after.hasher (given_record before given)
  pub next : given.target.begins ≡ false → (m : List ℕ) → Holds256 before.hasher m
      → Holds256 after.hasher (m ++ given_record before given)
  pub frames : after.frames.items ≡ before.frames.items
