-- The access units of what isn't left out by itself, and where delimiters are put (ITU-T H.264, 7.4.1.2.3).
use Rattle.std.specs.Prelude.{ℕ, Bool, true, false, ◌&&◌, ◌||◌, nat_le, List, [], ◌∷◌, ◌++◌, length, map, if◌then◌else◌}
use Rattle.std.specs.List.{filter}
use Rattle.annexb.specs.ByteStream.{joined}
use Rattle.annexb.specs.NalUnit.{is_slice}
use Rattle.annexb.specs.AccessUnits.{begins_access_unit}
use Rattle.access_unit.specs.Refusals.{has_slice, mixes_idr, mixes_reference, most_bytes}
use Rattle.stream_mending.specs.Segments.{Segment}
use Rattle.stream_mending.specs.Faults.{is_sound}
use Rattle.stream_mending.specs.declared.joint.Joint.{Joint}
use Rattle.stream_mending.specs.declared.joint.Joint.TheVariants.{Joins, Begins, NeedsDelimiter}

-- an access unit and what is left out within it: whether a delimiter is put before it, and its segments
pub record Portion : Type 0 where
  pub is_delimited : Bool
  pub segments : List Segment

-- an access unit delimiter, for pictures of any slices (7.3.2.4)
abbrev pub delimiter : List ℕ
delimiter = 9 ∷ 240 ∷ []

-- the delimiter that is put, if one is
abbrev pub put : Bool → List (List ℕ)
put true = delimiter ∷ []
put false = []

-- the NAL units of segments that aren't left out by themselves
abbrev pub sound_units : List Segment → List (List ℕ)
sound_units segments = filter is_sound (map (λ segment. segment.unit) segments)

-- the NAL units of the access unit
abbrev pub units_of : Portion → List (List ℕ)
units_of portion = put portion.is_delimited ++ sound_units portion.segments

-- the slices among them
abbrev pub slices_of : Portion → List (List ℕ)
slices_of portion = filter is_slice (sound_units portion.segments)

-- a slice that can't be one of the access unit of these slices, for what the first of them is
abbrev pub is_of_other : List (List ℕ) → List ℕ → Bool
is_of_other slices unit = is_slice unit && (mixes_idr slices unit || mixes_reference slices unit)

-- whether a NAL unit joins the access unit of these slices, begins the next one, or needs a delimiter before it
unfoldable pub joint_of : List (List ℕ) → List ℕ → Joint
joint_of slices unit =
    if has_slice slices && begins_access_unit unit then Begins
    else if is_of_other slices unit then NeedsDelimiter
    else Joins

-- the same, where one that is left out by itself joins
abbrev pub joint_after : Portion → Segment → Joint
joint_after portion segment = if is_sound segment.unit then joint_of (slices_of portion) segment.unit else Joins

-- the access unit that ends before a segment, if one does
abbrev pub ended_by : Joint → Portion → List Portion
ended_by Joins portion = []
ended_by _ portion = portion ∷ []

-- the access unit that a segment belongs to, so far, after this one
abbrev pub goes_on_in : Joint → Portion → Portion
goes_on_in Joins portion = portion
goes_on_in Begins portion = record { is_delimited = false; segments = [] }
goes_on_in NeedsDelimiter portion = record { is_delimited = true; segments = [] }

-- with one segment more
abbrev pub with_segment : Portion → Segment → Portion
with_segment portion segment = record portion { segments = portion.segments ++ segment ∷ [] }

-- the access units of segments, after this one so far
abbrev pub portions_from : Portion → List Segment → List Portion
portions_from portion [] = portion ∷ []
portions_from portion (segment ∷ segments) =
    ended_by (joint_after portion segment) portion
    ++ portions_from (with_segment (goes_on_in (joint_after portion segment) portion) segment) segments

-- before the first segment
abbrev pub no_segment : Portion
no_segment = record { is_delimited = false; segments = [] }

-- the access units of a text's segments
abbrev pub portions_of : List Segment → List Portion
portions_of segments = portions_from no_segment segments

-- how many slices an access unit has at most
abbrev pub most_slices : ℕ
most_slices = 256

-- the access unit isn't too large
unfoldable pub fits : Portion → Bool
fits portion =
    nat_le (length (joined (units_of portion))) most_bytes && nat_le (length (slices_of portion)) most_slices
