-- The text of segments, and its NAL units.
use Rattle.std.proofs.Common.{◌≡◌, ℕ, ◌+◌, ◌-◌, ◌<◌, Bool, true, false, List, [], ◌∷◌, ◌++◌, length, replicate, All, arith, refl, ap, sym, ◌∙◌, append_assoc}
use Rattle.std.proofs.lemmas.List.{replicate-append-replicate}
use Rattle.std.proofs.lemmas.List.Elements.{All-head, All-tail, All-cons, All-nil}
use Rattle.std.specs.List.{flat_map}
use Rattle.annexb.specs.NalUnit.{IsUnit}
use Rattle.annexb.specs.Faults.{is_nothing}
use Rattle.annexb.specs.ByteStream.{start_code}
use Rattle.access_unit.specs.Coded.{HasRest}
use Rattle.stream_mending.specs.Segments.{Segment, trimmed, segment_at, segments_at}
use Rattle.stream_mending.specs.Faults.{is_sound}
use Rattle.stream_mending.specs.Portions.{sound_units}
use Rattle.stream_mending.specs.Mended.{segment_text}
use Rattle.stream_mending.proofs.Sequences.{allowed_at}
use Rattle.stream_mending.proofs.Sound.{sound_parts}
use Rattle.stream_mending.proofs.Trims.{trimmed_ends}

-- zeros in front of a text
pub HasRest-zeros : (count : ℕ) (text : List ℕ) (units : List (List ℕ)) → HasRest text units → HasRest (replicate count 0 ++ text) units
HasRest-zeros count text units has = record {
  zeros = count + has.zeros;
  rest = has.rest;
  text_is =
      ap (λ l. replicate count 0 ++ l) has.text_is ∙ sym (append_assoc (replicate count 0) (replicate has.zeros 0) has.rest)
      ∙ ap (λ l. l ++ has.rest) (replicate-append-replicate count has.zeros 0);
  rest_is = has.rest_is;
}

-- a NAL unit in front of one
pub HasRest-unit : (unit text : List ℕ) (units : List (List ℕ)) → IsUnit unit → HasRest text units
    → HasRest ((start_code ++ unit) ++ text) (unit ∷ units)
HasRest-unit unit text units is_unit has = record {
  zeros = 0;
  rest = (start_code ++ unit) ++ text;
  text_is = refl;
  rest_is = (
    has.rest,
    record {
      zeros = has.zeros;
      bytes_are = append_assoc start_code unit text ∙ ap (λ l. start_code ++ (unit ++ l)) has.text_is;
      unit_is = is_unit;
    },
    has.rest_is,
  );
}

-- NAL units that stay are units
abbrev pub AreUnitsKept : List Segment → Type 0
AreUnitsKept segments = All (λ segment. is_sound segment.unit ≡ true → IsUnit segment.unit) segments

-- segments in front of one
pub HasRest-segments : (segments : List Segment) (text : List ℕ) (units : List (List ℕ)) → AreUnitsKept segments → HasRest text units
    → HasRest (flat_map segment_text segments ++ text) (sound_units segments ++ units)
HasRest-segments [] text units kept has = has
HasRest-segments (segment ∷ segments) text units kept has =
    cases (HasRest-segments segments text units (All-tail (λ (s : Segment). is_sound s.unit ≡ true → IsUnit s.unit) segment segments kept) has) (is_sound segment.unit) refl
  where
    cases : HasRest (flat_map segment_text segments ++ text) (sound_units segments ++ units) → (b : Bool) → is_sound segment.unit ≡ b
        → HasRest (flat_map segment_text (segment ∷ segments) ++ text) (sound_units (segment ∷ segments) ++ units)
    cases later true e =
        let unit = All-head (λ (s : Segment). is_sound s.unit ≡ true → IsUnit s.unit) segment segments kept e in
        rw (e, append_assoc, append_assoc)
        (HasRest-unit segment.unit (replicate segment.zeros 0 ++ (flat_map segment_text segments ++ text)) (sound_units segments ++ units) unit
        (HasRest-zeros segment.zeros (flat_map segment_text segments ++ text) (sound_units segments ++ units) later))
    cases later false e =
        rw (e, append_assoc)
        (HasRest-zeros segment.zeros (flat_map segment_text segments ++ text) (sound_units segments ++ units) later)

-- so such a one that stays is a unit
pub IsUnit-trimmed : (bytes : List ℕ) → is_sound (trimmed bytes) ≡ true → IsUnit (trimmed bytes)
IsUnit-trimmed bytes sound =
    let parts = sound_parts (trimmed bytes) sound in
    let some : 0 < length (trimmed bytes) = filled (trimmed bytes) parts.filled in
    record {
      filled = some;
      ends = trimmed_ends bytes (length (trimmed bytes) - 1) (omega arith);
      allowed = allowed_at (trimmed bytes) parts.allowed;
    }
  where
    filled : (l : List ℕ) → is_nothing l ≡ false → 0 < length l
    filled [] h = cc
    filled (byte ∷ l) h = omega arith

pub AreUnitsKept-segments : (place : ℕ) (pieces : List (List ℕ)) → AreUnitsKept (segments_at place pieces)
AreUnitsKept-segments place [] = All-nil (λ (s : Segment). is_sound s.unit ≡ true → IsUnit s.unit)
AreUnitsKept-segments place (bytes ∷ pieces) =
    All-cons (λ (s : Segment). is_sound s.unit ≡ true → IsUnit s.unit) (segment_at place bytes)
    (segments_at (place + (3 + length bytes)) pieces) (IsUnit-trimmed bytes)
    (AreUnitsKept-segments (place + (3 + length bytes)) pieces)
