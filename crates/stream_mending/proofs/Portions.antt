-- An access unit with one segment more.
use Rattle.std.proofs.Common.{◌≡◌, ℕ, ◌+◌, ◌<◌, Bool, true, false, List, [], ◌∷◌, ◌++◌, length, map, replicate, arith, refl, ap, sym, ◌∙◌, length-append, append_assoc}
use Rattle.std.proofs.lemmas.List.{append-nil, map-append}
use Rattle.std.proofs.lemmas.List.Elements.{filter-append}
use Rattle.std.proofs.lemmas.Grind.{flat_map-append}
use Rattle.std.specs.List.{filter, flat_map}
use Rattle.annexb.specs.ByteStream.{start_code, joined}
use Rattle.annexb.specs.NalUnit.{is_slice}
use Rattle.stream_mending.specs.Segments.{Segment}
use Rattle.stream_mending.specs.Faults.{is_sound}
use Rattle.stream_mending.specs.Portions.{Portion, put, sound_units, slices_of, with_segment}
use Rattle.stream_mending.specs.Mended.{segment_text, whole_text, zeros_text, first_place, told_segment}

-- the sound NAL unit of one segment
pub sound_one : (segment : Segment) → is_sound segment.unit ≡ true → sound_units (segment ∷ []) ≡ segment.unit ∷ []
sound_one segment sound = rw sound refl

-- or none
pub sound_none : (segment : Segment) → is_sound segment.unit ≡ false → sound_units (segment ∷ []) ≡ []
sound_none segment unsound = rw unsound refl

pub sound_units-push : (segments : List Segment) (segment : Segment)
    → sound_units (segments ++ segment ∷ []) ≡ sound_units segments ++ sound_units (segment ∷ [])
sound_units-push segments segment =
    ap (filter is_sound) (map-append (λ s. s.unit) segments (segment ∷ []))
    ∙ filter-append is_sound (map (λ s. s.unit) segments) (map (λ s. s.unit) (segment ∷ []))

pub joined-append : (units others : List (List ℕ)) → joined (units ++ others) ≡ joined units ++ joined others
joined-append units others = flat_map-append (λ unit. start_code ++ unit) units others

module _ (portion : Portion) (segment : Segment) where
  pub whole_text-push : whole_text (with_segment portion segment) ≡ whole_text portion ++ segment_text segment
  whole_text-push =
      ap (λ l. joined (put portion.is_delimited) ++ l) (flat_map-append segment_text portion.segments (segment ∷ [])
      ∙ ap (λ l. flat_map segment_text portion.segments ++ l) (append-nil (segment_text segment)))
      ∙ sym (append_assoc (joined (put portion.is_delimited)) (flat_map segment_text portion.segments) (segment_text segment))

  pub zeros_text-push : zeros_text (with_segment portion segment) ≡ zeros_text portion ++ replicate segment.zeros 0
  zeros_text-push =
      flat_map-append (λ s. replicate s.zeros 0) portion.segments (segment ∷ [])
      ∙ ap (λ l. zeros_text portion ++ l) (append-nil (replicate segment.zeros 0))

  pub slices-push : slices_of (with_segment portion segment) ≡ slices_of portion ++ filter is_slice (sound_units (segment ∷ []))
  slices-push =
      ap (filter is_slice) (sound_units-push portion.segments segment)
      ∙ filter-append is_slice (sound_units portion.segments) (sound_units (segment ∷ []))

  pub told-push : flat_map told_segment (with_segment portion segment).segments ≡ flat_map told_segment portion.segments ++ told_segment segment
  told-push =
      flat_map-append told_segment portion.segments (segment ∷ [])
      ∙ ap (λ l. flat_map told_segment portion.segments ++ l) (append-nil (told_segment segment))

  -- a segment that is left out
  module _ (unsound : is_sound segment.unit ≡ false) where
    pub text-left_out : segment_text segment ≡ replicate segment.zeros 0
    text-left_out = rw unsound refl

    pub units-left_out : sound_units (with_segment portion segment).segments ≡ sound_units portion.segments
    units-left_out =
        sound_units-push portion.segments segment
        ∙ (ap (λ l. sound_units portion.segments ++ l) (sound_none segment unsound) ∙ append-nil (sound_units portion.segments))

    pub slices-left_out : slices_of (with_segment portion segment) ≡ slices_of portion
    slices-left_out = ap (filter is_slice) units-left_out

  -- one that stays
  module _ (sound : is_sound segment.unit ≡ true) where
    pub text-kept : segment_text segment ≡ (start_code ++ segment.unit) ++ replicate segment.zeros 0
    text-kept = rw sound refl

    pub units-kept : sound_units (with_segment portion segment).segments ≡ sound_units portion.segments ++ segment.unit ∷ []
    units-kept =
        sound_units-push portion.segments segment ∙ ap (λ l. sound_units portion.segments ++ l) (sound_one segment sound)

    pub slices-kept : slices_of (with_segment portion segment) ≡ slices_of portion ++ filter is_slice (segment.unit ∷ [])
    slices-kept = slices-push ∙ ap (λ l. slices_of portion ++ filter is_slice l) (sound_one segment sound)

    pub bytes-kept :
        length (joined (sound_units (with_segment portion segment).segments))
        ≡ length (joined (sound_units portion.segments)) + (3 + length segment.unit)
    bytes-kept =
        ap (λ l. length (joined l)) units-kept
        ∙ (ap length (joined-append (sound_units portion.segments) (segment.unit ∷ []))
        ∙ (length-append (joined (sound_units portion.segments)) (joined (segment.unit ∷ []))
        ∙ omega (arith, ap (λ l. length (start_code ++ l)) (append-nil segment.unit))))

-- where the first NAL unit stands
pub place-left_out : (segments : List Segment) (segment : Segment) → is_sound segment.unit ≡ false
    → first_place (segments ++ segment ∷ []) ≡ first_place segments
place-left_out [] segment unsound = rw unsound refl
place-left_out (first ∷ segments) segment unsound = cases (place-left_out segments segment unsound) (is_sound first.unit) refl
  where
    cases : first_place (segments ++ segment ∷ []) ≡ first_place segments → (b : Bool) → is_sound first.unit ≡ b
        → first_place ((first ∷ segments) ++ segment ∷ []) ≡ first_place (first ∷ segments)
    cases later true e = rw e refl
    cases later false e = rw e later

pub place-first : (segments : List Segment) (segment : Segment) → is_sound segment.unit ≡ true
    → length (joined (sound_units segments)) ≡ 0 → first_place (segments ++ segment ∷ []) ≡ segment.place
place-first [] segment sound none = rw sound refl
place-first (first ∷ segments) segment sound none = cases (place-first segments segment sound) (is_sound first.unit) refl
  where
    cases : (length (joined (sound_units segments)) ≡ 0 → first_place (segments ++ segment ∷ []) ≡ segment.place) → (b : Bool) → is_sound first.unit ≡ b
        → first_place ((first ∷ segments) ++ segment ∷ []) ≡ segment.place
    cases later true e = absurd (omega (arith, rw e at none))
    cases later false e = rw e (later (rw e at none))

pub place-later : (segments : List Segment) (segment : Segment)
    → 0 < length (joined (sound_units segments)) → first_place (segments ++ segment ∷ []) ≡ first_place segments
place-later [] segment some = absurd (omega arith)
place-later (first ∷ segments) segment some = cases (place-later segments segment) (is_sound first.unit) refl
  where
    cases : (0 < length (joined (sound_units segments)) → first_place (segments ++ segment ∷ []) ≡ first_place segments) → (b : Bool) → is_sound first.unit ≡ b
        → first_place ((first ∷ segments) ++ segment ∷ []) ≡ first_place (first ∷ segments)
    cases later true e = rw e refl
    cases later false e = rw e (later (rw e at some))
