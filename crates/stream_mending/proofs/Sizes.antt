-- What is written has at most 9 bytes for each 4 that were given.
use Rattle.std.proofs.Common.{◌≡◌, ℕ, ◌+◌, ◌-◌, ◌*◌, ◌<◌, ◌≤◌, Bool, true, false, List, [], ◌∷◌, ◌++◌, length, replicate, All, arith, refl, ap, sym, ◌∙◌, length-append}
use Rattle.std.proofs.lemmas.List.{length-replicate}
use Rattle.std.proofs.lemmas.List.Elements.{All-head, All-tail, All-cons, All-nil}
use Rattle.std.specs.List.{flat_map, list_any}
use Rattle.annexb.specs.ByteStream.{start_code}
use Rattle.annexb.specs.Faults.{is_nothing}
use Rattle.stream_mending.specs.Segments.{Segment, cut_of, foreign, trimmed, end_zeros, segment_at, segments_at, segments_of}
use Rattle.stream_mending.specs.Faults.{is_sound}
use Rattle.stream_mending.specs.Portions.{Portion, joint_after, ended_by, goes_on_in, with_segment, portions_from, portions_of, no_segment, fits}
use Rattle.stream_mending.specs.Mended.{segment_text, whole_text, portion_text, stays, front_text, mended}
use Rattle.stream_mending.specs.declared.joint.Joint.{Joint}
use Rattle.stream_mending.specs.declared.joint.Joint.TheVariants.{Joins, Begins, NeedsDelimiter}
use Rattle.stream_mending.proofs.Accepted.{uncut-cut_of}
use Rattle.stream_mending.proofs.Sound.{sound_parts}
use Rattle.stream_mending.proofs.Trims.{trimmed-zeros}
use Rattle.stream_mending.proofs.Unchanged.{all_segments}
use Rattle.stream_mending.proofs.Written.{mended_is, nothing_mended}

-- the bytes of a segment, and of several
abbrev size : Segment → ℕ
size segment = 3 + (length segment.unit + segment.zeros)

abbrev sizes : List Segment → ℕ
sizes [] = 0
sizes (segment ∷ segments) = size segment + sizes segments

sizes-append : (segments others : List Segment) → sizes (segments ++ others) ≡ sizes segments + sizes others
sizes-append [] others = omega arith
sizes-append (segment ∷ segments) others = omega (arith, sizes-append segments others)

-- what is written of a segment is no longer
segment_len : (segment : Segment) → length (segment_text segment) ≤ size segment
segment_len segment = cases (is_sound segment.unit) refl
  where
    cases : (b : Bool) → is_sound segment.unit ≡ b → length (segment_text segment) ≤ size segment
    cases true e = rw e (omega (arith, length-append (start_code ++ segment.unit) (replicate {A = ℕ} segment.zeros 0), length-replicate {A = ℕ} segment.zeros 0))
    cases false e = rw e (omega (arith, length-replicate {A = ℕ} segment.zeros 0))

segments_len : (segments : List Segment) → length (flat_map segment_text segments) ≤ sizes segments
segments_len [] = omega arith
segments_len (segment ∷ segments) =
    omega (arith, length-append (segment_text segment) (flat_map segment_text segments), segment_len segment, segments_len segments)

zeros_len : (segments : List Segment) → length {A = ℕ} (flat_map (λ segment. replicate {A = ℕ} segment.zeros 0) segments) ≤ sizes segments
zeros_len [] = omega arith
zeros_len (segment ∷ segments) =
    omega (arith, length-append (replicate {A = ℕ} segment.zeros 0) (flat_map (λ segment. replicate {A = ℕ} segment.zeros 0) segments), length-replicate {A = ℕ} segment.zeros 0, zeros_len segments)

-- a delimiter is put before a NAL unit, which has four bytes with its start code
abbrev IsFilled : Portion → Type 0
IsFilled portion = portion.is_delimited ≡ true → 4 ≤ sizes portion.segments

portion_len : (portion : Portion) → IsFilled portion → 4 * length (portion_text portion) ≤ 9 * sizes portion.segments
portion_len portion filled = cases (fits portion) refl
  where
    whole : (b : Bool) → portion.is_delimited ≡ b → 4 * length (whole_text portion) ≤ 9 * sizes portion.segments
    whole true e = rw e (omega (arith, filled e, segments_len portion.segments))
    whole false e = rw e (omega (arith, segments_len portion.segments))

    cases : (b : Bool) → fits portion ≡ b → 4 * length (portion_text portion) ≤ 9 * sizes portion.segments
    cases true e = rw e (whole portion.is_delimited refl)
    cases false e = rw e (omega (arith, zeros_len portion.segments))

portions_len : (portions : List Portion) → All IsFilled portions
    → 4 * length (flat_map portion_text portions) ≤ 9 * sizes (flat_map (λ p. p.segments) portions)
portions_len [] filled = omega arith
portions_len (portion ∷ portions) filled =
    let here = portion_len portion (All-head IsFilled portion portions filled) in
    let later = portions_len portions (All-tail IsFilled portion portions filled) in
    omega (
      arith,
      here,
      later,
      length-append (portion_text portion) (flat_map portion_text portions),
      sizes-append portion.segments (flat_map (λ p. p.segments) portions),
    )

-- a NAL unit that isn't left out has a byte
sound_len : (unit : List ℕ) → is_sound unit ≡ true → 0 < length unit
sound_len unit sound = some unit (sound_parts unit sound).filled
  where
    some : (l : List ℕ) → is_nothing l ≡ false → 0 < length l
    some [] h = cc
    some (byte ∷ l) h = omega arith

more_filled : (portion : Portion) (segment : Segment) → IsFilled portion → IsFilled (with_segment portion segment)
more_filled portion segment filled is = omega (arith, filled is, sizes-append portion.segments (segment ∷ []))

needs_sound : (portion : Portion) (segment : Segment) → joint_after portion segment ≡ NeedsDelimiter → is_sound segment.unit ≡ true
needs_sound portion segment is = cases (is_sound segment.unit) refl
  where
    cases : (b : Bool) → is_sound segment.unit ≡ b → is_sound segment.unit ≡ true
    cases true e = e
    cases false e = let joins : Joins ≡ NeedsDelimiter = rw e at is in absurd cc

all_filled : (segments : List Segment) (portion : Portion) → IsFilled portion → All IsFilled (portions_from portion segments)
all_filled [] portion filled = All-cons IsFilled portion [] filled (All-nil IsFilled)
all_filled (segment ∷ segments) portion filled = cases (joint_after portion segment) refl (λ next. all_filled segments next)
  where
    cases : (joint : Joint) → joint_after portion segment ≡ joint → ((next : Portion) → IsFilled next → All IsFilled (portions_from next segments))
        → All IsFilled (ended_by joint portion ++ portions_from (with_segment (goes_on_in joint portion) segment) segments)
    cases Joins is later = later (with_segment portion segment) (more_filled portion segment filled)
    cases Begins is later =
        All-cons IsFilled portion _ filled (later (record { is_delimited = false; segments = segment ∷ [] }) (λ e. absurd cc))
    cases NeedsDelimiter is later =
        All-cons IsFilled portion _ filled
        (later (record { is_delimited = true; segments = segment ∷ [] }) (λ e. omega (arith, sound_len segment.unit (needs_sound portion segment is))))

-- the segments of what stands after start codes have its bytes, and those of the start codes
segment_size : (place : ℕ) (bytes : List ℕ) → size (segment_at place bytes) ≡ 3 + length bytes
segment_size place bytes =
    omega (arith, ap length (trimmed-zeros bytes), length-append (trimmed bytes) (replicate {A = ℕ} (end_zeros bytes) 0), length-replicate {A = ℕ} (end_zeros bytes) 0)

segments_size : (place : ℕ) (pieces : List (List ℕ)) → sizes (segments_at place pieces) ≡ length (flat_map (λ bytes. start_code ++ bytes) pieces)
segments_size place [] = refl
segments_size place (bytes ∷ pieces) =
    omega (
      arith,
      segment_size place bytes,
      segments_size (place + (3 + length bytes)) pieces,
      length-append (start_code ++ bytes) (flat_map (λ bytes. start_code ++ bytes) pieces),
    )

text_size : (text : List ℕ) → length (cut_of text).front + sizes (segments_of text) ≡ length text
text_size text =
    omega (
      arith,
      segments_size (length (cut_of text).front) (cut_of text).rest,
      ap length (uncut-cut_of text),
      length-append (cut_of text).front (flat_map (λ bytes. start_code ++ bytes) (cut_of text).rest),
    )

front_len : (front : List ℕ) → length (front_text front) ≤ length front
front_len front = omega (arith, length-replicate {A = ℕ} (length front - length (foreign front)) 0)

-- of a text whose access units are these
module _ (text : List ℕ) (all : List Portion) (are : all ≡ portions_of (segments_of text)) where
  by_stays : (b : Bool) → list_any stays (portions_of (segments_of text)) ≡ b → 4 * length (mended text) ≤ 9 * length text
  by_stays true some =
      let written = portions_len all (rw are (all_filled (segments_of text) no_segment (λ e. absurd cc))) in
      let given = ap sizes (ap (flat_map (λ p. p.segments)) are ∙ all_segments (segments_of text) no_segment) in
      let is = mended_is text some ∙ ap (λ l. front_text (cut_of text).front ++ flat_map portion_text l) (sym are) in
      omega (
        arith,
        written,
        given,
        text_size text,
        front_len (cut_of text).front,
        ap length is,
        length-append (front_text (cut_of text).front) (flat_map portion_text all),
      )
  by_stays false none = omega (arith, ap length (nothing_mended text none))

pub nine_for_four : (text : List ℕ) → 4 * length (mended text) ≤ 9 * length text
nine_for_four text = by_stays text (portions_of (segments_of text)) refl (list_any stays (portions_of (segments_of text))) refl
