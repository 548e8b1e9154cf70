-- What is kept of an access unit that isn't at its end yet.
use Rattle.std.specs.Prelude.{◌≡◌, ℕ, not, List, [], ◌∷◌, length, replicate, Option, None, Some}
use Rattle.annexb.specs.ByteStream.{joined}
use Rattle.annexb.specs.NalUnit.{nal_unit_type}
use Rattle.access_unit.specs.Refusals.{is_not_reference}
use Rattle.stream_mending.specs.Portions.{Portion, sound_units, slices_of}
use Rattle.stream_mending.specs.Mended.{whole_text, zeros_text, first_place}
use Rattle.stream_mending.specs.declared.joint.FirstSlice.{FirstSlice}
use Rattle.stream_mending.specs.declared.open_portion.OpenPortion.{OpenPortion}

-- what a slice says of its picture
abbrev pub first_slice : List ℕ → FirstSlice
first_slice unit = record { nal_unit_type = nal_unit_type unit; is_reference = not (is_not_reference unit) }

-- what is kept of the first of the slices, if there are any
abbrev pub IsFirstOf : List (List ℕ) → Option FirstSlice → Type 0
IsFirstOf [] first = first ≡ None
IsFirstOf (slice ∷ slices) first = first ≡ Some (first_slice slice)

-- what is kept is that of this access unit
pub record IsOpen (portion : Portion) (open_portion : OpenPortion) : Type 0 where
  pub text_is : open_portion.text.items ≡ whole_text portion
  pub zeros_are : replicate open_portion.zeros 0 ≡ zeros_text portion
  pub bytes_are : open_portion.bytes ≡ length (joined (sound_units portion.segments))
  pub place_is : open_portion.place ≡ first_place portion.segments
  pub slices_are : open_portion.slices ≡ length (slices_of portion)
  pub first_is : IsFirstOf (slices_of portion) open_portion.first
  pub delimited : open_portion.is_delimited ≡ portion.is_delimited
