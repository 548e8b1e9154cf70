-- What is written of a text, and what is told of what isn't.
use Rattle.std.specs.Prelude.{ℕ, ◌+◌, ◌-◌, Bool, ◌&&◌, nat_lt, List, [], ◌∷◌, ◌++◌, length, replicate, Option, None, Some, if◌then◌else◌}
use Rattle.std.specs.List.{flat_map, list_any}
use Rattle.annexb.specs.ByteStream.{start_code, joined}
use Rattle.annexb.specs.Faults.{zero_run}
use Rattle.stream_mending.specs.Segments.{Segment, cut_of, foreign, segments_of}
use Rattle.stream_mending.specs.Faults.{fault_of, is_sound}
use Rattle.stream_mending.specs.Portions.{Portion, put, sound_units, units_of, portions_of, fits}
use Rattle.stream_mending.specs.declared.why.Why.{Why}
use Rattle.stream_mending.specs.declared.why.Why.TheVariants.{NotNalUnit, TooLarge}
use Rattle.stream_mending.specs.declared.why.LeftOut.{LeftOut}

-- a NAL unit with its start code, if it isn't left out by itself, and the zeros after it
abbrev pub segment_text : Segment → List ℕ
segment_text segment =
    (if is_sound segment.unit then start_code ++ segment.unit else []) ++ replicate segment.zeros 0

-- what is written of an access unit that fits
abbrev pub whole_text : Portion → List ℕ
whole_text portion = joined (put portion.is_delimited) ++ flat_map segment_text portion.segments

-- what is written of one that doesn't
abbrev pub zeros_text : Portion → List ℕ
zeros_text portion = flat_map (λ segment. replicate segment.zeros 0) portion.segments

-- what is written of one
abbrev pub portion_text : Portion → List ℕ
portion_text portion = if fits portion then whole_text portion else zeros_text portion

-- an access unit stays: it fits, and has a NAL unit
abbrev pub stays : Portion → Bool
stays portion = fits portion && nat_lt 0 (length (units_of portion))

-- what stays of what stands before the first start code
abbrev pub front_text : List ℕ → List ℕ
front_text front = replicate (length front - length (foreign front)) 0

-- what is written of a text: the bytes as they came, without what is left out, and with the delimiters
-- that are put; nothing where no NAL unit stays
unfoldable pub mended : List ℕ → List ℕ
mended text = if list_any stays (portions_of (segments_of text))
    then front_text (cut_of text).front ++ flat_map portion_text (portions_of (segments_of text))
    else []

-- bytes are left out from this place on, if there are any
abbrev pub told_bytes : ℕ → ℕ → Why → List LeftOut
told_bytes place count why = if nat_lt 0 count then record { byte = place; bytes = count; why = why } ∷ [] else []

-- what is told of what stands before the first start code, or of all where there is none
abbrev pub told_front : List ℕ → List (List ℕ) → List LeftOut
told_front front [] = told_bytes 0 (length front) NotNalUnit
told_front front rest = told_bytes (zero_run front) (length (foreign front)) NotNalUnit

-- what is told of a segment that is left out for this
abbrev pub told_for : Segment → Option Why → List LeftOut
told_for segment None = []
told_for segment (Some why) = told_bytes segment.place (3 + length segment.unit) why

-- what is told of a segment by itself
abbrev pub told_segment : Segment → List LeftOut
told_segment segment = told_for segment (fault_of segment.unit)

-- the place of the first NAL unit that isn't left out by itself, or 0
abbrev pub first_place : List Segment → ℕ
first_place [] = 0
first_place (segment ∷ segments) = if is_sound segment.unit then segment.place else first_place segments

-- what is told of an access unit at its end
abbrev pub told_size : Portion → List LeftOut
told_size portion = if fits portion then []
    else told_bytes (first_place portion.segments) (length (joined (sound_units portion.segments))) TooLarge

-- what is told of an access unit, its NAL units first
abbrev pub told_portion : Portion → List LeftOut
told_portion portion = flat_map told_segment portion.segments ++ told_size portion

-- what is told of a text
unfoldable pub told : List ℕ → List LeftOut
told text =
    told_front (cut_of text).front (cut_of text).rest
    ++ flat_map told_portion (portions_of (segments_of text))
