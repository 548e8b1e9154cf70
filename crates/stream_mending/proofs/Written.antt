-- What is written is a stream that isn't refused.
use Rattle.std.proofs.Common.{◌≡◌, ℕ, ◌-◌, ◌<◌, Bool, true, false, ◌||◌, leb, ltb, List, [], ◌∷◌, ◌++◌, length, replicate, All, arith, refl, ap, sym, subst, ◌∙◌, length-append, append_assoc}
use Rattle.std.proofs.lemmas.Bool.{false≢true, and_parts, leb-true, ltb-true}
use Rattle.std.proofs.lemmas.List.{append-nil}
use Rattle.std.proofs.lemmas.List.Elements.{All-head, All-tail, All-cons, All-nil, All-append}
use Rattle.std.specs.List.{flat_map, list_any}
use Rattle.annexb.specs.NalUnit.{IsUnit}
use Rattle.annexb.specs.ByteStream.{HasUnits, joined}
use Rattle.annexb.specs.AccessUnits.{AreAccessUnits}
use Rattle.annexb.proofs.Readings.{HasUnits-joined}
use Rattle.access_unit.specs.Coded.{HasRest}
use Rattle.access_unit.specs.Refusals.{most_bytes}
use Rattle.access_unit.specs.Answers.{IsAccepted}
use Rattle.access_unit.specs.Streams.{AreAccepted}
use Rattle.access_unit.specs.StreamUnits.{IsStream}
use Rattle.stream_mending.specs.Segments.{Segment, cut_of, foreign, segments_of}
use Rattle.stream_mending.specs.Faults.{is_sound}
use Rattle.stream_mending.specs.Portions.{Portion, put, delimiter, sound_units, units_of, slices_of, fits, most_slices, no_segment, portions_of}
use Rattle.stream_mending.specs.Mended.{segment_text, whole_text, portion_text, stays, front_text, mended}
use Rattle.stream_mending.proofs.Rebuilt.{AreUnitsKept, AreUnitsKept-segments, HasRest-zeros, HasRest-unit, HasRest-segments}
use Rattle.stream_mending.proofs.Units.{IsGood, Kept}
use Rattle.stream_mending.proofs.Linked.{IsUnit-delimiter, good_none, Portions, portions_good, parts_of, parts_are}

-- the NAL units of parts
abbrev pub units_in : List (List (List ℕ)) → List (List ℕ)
units_in parts = flat_map (λ part. part) parts

-- what is written of an access unit, in front of a text
module _ (portion : Portion) (text : List ℕ) (units : List (List ℕ)) (good : IsGood portion) (has : HasRest text units) where
  whole_rest : HasRest (whole_text portion ++ text) (units_of portion ++ units)
  whole_rest = by_put portion.is_delimited
    where
      tail : HasRest (flat_map segment_text portion.segments ++ text) (sound_units portion.segments ++ units)
      tail = HasRest-segments portion.segments text units good.kept has

      by_put : (b : Bool) → HasRest ((joined (put b) ++ flat_map segment_text portion.segments) ++ text) ((put b ++ sound_units portion.segments) ++ units)
      by_put true = rw append_assoc (HasRest-unit delimiter (flat_map segment_text portion.segments ++ text) (sound_units portion.segments ++ units) IsUnit-delimiter tail)
      by_put false = tail

zeros_rest : (segments : List Segment) (text : List ℕ) (units : List (List ℕ)) → HasRest text units
    → HasRest (flat_map (λ segment. replicate segment.zeros 0) segments ++ text) units
zeros_rest [] text units has = has
zeros_rest (segment ∷ segments) text units has =
    rw append_assoc (HasRest-zeros segment.zeros (flat_map (λ s. replicate s.zeros 0) segments ++ text) units (zeros_rest segments text units has))

-- of all
portions_rest : (portions : List Portion) → All IsGood portions → HasRest (flat_map portion_text portions) (units_in (parts_of portions))
portions_rest [] good = record { zeros = 0; rest = []; text_is = refl; rest_is = refl }
portions_rest (portion ∷ portions) good = cases (portions_rest portions (All-tail IsGood portion portions good)) (fits portion) refl
  where
    cases : HasRest (flat_map portion_text portions) (units_in (parts_of portions)) → (b : Bool) → fits portion ≡ b → HasRest (flat_map portion_text (portion ∷ portions)) (units_in (parts_of (portion ∷ portions)))
    cases later true fit =
        rw fit (whole_rest portion (flat_map portion_text portions) (units_in (parts_of portions)) (All-head IsGood portion portions good) later)
    cases later false fit = rw fit (zeros_rest portion.segments (flat_map portion_text portions) (units_in (parts_of portions)) later)

-- the NAL units of an access unit are units
units_are : (portion : Portion) → IsGood portion → All IsUnit (units_of portion)
units_are portion good = All-append IsUnit (put portion.is_delimited) (sound_units portion.segments) (of_put portion.is_delimited) (of_segments portion.segments good.kept)
  where
    of_put : (b : Bool) → All IsUnit (put b)
    of_put true = All-cons IsUnit delimiter [] IsUnit-delimiter (All-nil IsUnit)
    of_put false = All-nil IsUnit

    of_segments : (segments : List Segment) → AreUnitsKept segments → All IsUnit (sound_units segments)
    of_segments [] kept = All-nil IsUnit
    of_segments (segment ∷ segments) kept = cases (of_segments segments (All-tail Kept segment segments kept)) (is_sound segment.unit) refl
      where
        cases : All IsUnit (sound_units segments) → (b : Bool) → is_sound segment.unit ≡ b → All IsUnit (sound_units (segment ∷ segments))
        cases later true e =
            rw e (All-cons IsUnit segment.unit (sound_units segments) (All-head Kept segment segments kept e) later)
        cases later false e = rw e later

-- one that fits is accepted
accepted_one : (portion : Portion) → IsGood portion → fits portion ≡ true → 0 < length (units_of portion)
    → IsAccepted (joined (units_of portion)) (units_of portion)
unfolding fits
accepted_one portion good fit some =
    let both = and_parts (leb (length (joined (units_of portion))) most_bytes) (leb (length (slices_of portion)) most_slices) fit in
    record {
      has = HasUnits-joined (units_of portion) some (units_are portion good);
      short = leb-true (length (joined (units_of portion))) most_bytes both.0;
      sound = good.fine (leb-true (length (slices_of portion)) most_slices both.1);
    }

-- parts have NAL units
abbrev AreFilled : List (List (List ℕ)) → Type 0
AreFilled parts = All (λ part. 0 < length part) parts

accepted_more : (portion : Portion) (portions : List Portion) → IsGood portion → AreFilled (parts_of (portion ∷ portions))
    → (AreFilled (parts_of portions) → AreAccepted (parts_of portions)) → (b : Bool) → fits portion ≡ b
    → AreAccepted (parts_of (portion ∷ portions))
accepted_more portion portions good some later true fit =
    let here : AreFilled (units_of portion ∷ parts_of portions) = rw fit at some in
    let filled = All-head (λ (part : List (List ℕ)). 0 < length part) (units_of portion) (parts_of portions) here in
    let others = All-tail (λ (part : List (List ℕ)). 0 < length part) (units_of portion) (parts_of portions) here in
    rw fit (All-cons (λ (part : List (List ℕ)). IsAccepted (joined part) part) (units_of portion) (parts_of portions)
    (accepted_one portion good fit filled) (later others))
accepted_more portion portions good some later false fit = rw fit (later (rw fit at some))

accepted_all : (portions : List Portion) → All IsGood portions → AreFilled (parts_of portions) → AreAccepted (parts_of portions)
accepted_all [] good some = All-nil (λ (part : List (List ℕ)). IsAccepted (joined part) part)
accepted_all (portion ∷ portions) good some =
    accepted_more portion portions (All-head IsGood portion portions good) some
    (accepted_all portions (All-tail IsGood portion portions good)) (fits portion) refl

-- none of some access units is empty
filled_parts : (parts : List (List (List ℕ))) → AreAccessUnits parts → All (λ part. 0 < length part) parts
filled_parts [] h = All-nil (λ (part : List (List ℕ)). 0 < length part)
filled_parts (part ∷ parts) h = All-cons (λ (part : List (List ℕ)). 0 < length part) part parts h.0 (filled_parts parts h.3)

some_either : (portion : Portion) (portions : List Portion)
    → (list_any stays portions ≡ true → 0 < length (units_in (parts_of portions)))
    → (b : Bool) → ltb 0 (length (units_of portion)) ≡ b → (b || list_any stays portions) ≡ true
    → 0 < length (units_of portion ++ units_in (parts_of portions))
some_either portion portions later true e h =
    omega (arith, ltb-true 0 (length (units_of portion)) e, length-append (units_of portion) (units_in (parts_of portions)))
some_either portion portions later false e h =
    omega (arith, later h, length-append (units_of portion) (units_in (parts_of portions)))

some_more : (portion : Portion) (portions : List Portion)
    → (list_any stays portions ≡ true → 0 < length (units_in (parts_of portions)))
    → (b : Bool) → fits portion ≡ b → list_any stays (portion ∷ portions) ≡ true
    → 0 < length (units_in (parts_of (portion ∷ portions)))
some_more portion portions later true fit h =
    rw fit (some_either portion portions later (ltb 0 (length (units_of portion))) refl (rw fit at h))
some_more portion portions later false fit h = rw fit (later (rw fit at h))

-- where one stays, there are NAL units
some_units : (portions : List Portion) → list_any stays portions ≡ true → 0 < length (units_in (parts_of portions))
some_units [] h = absurd (false≢true h)
some_units (portion ∷ portions) h = some_more portion portions (some_units portions) (fits portion) refl h

-- the access units of a text
portions_in : (text : List ℕ) → Portions no_segment (segments_of text)
portions_in text = portions_good (segments_of text) no_segment (good_none false) (AreUnitsKept-segments (length (cut_of text).front) (cut_of text).rest)

-- what is written is a stream
module _ (text : List ℕ) (some : list_any stays (portions_of (segments_of text)) ≡ true) where
  portions : Portions no_segment (segments_of text)
  portions = portions_in text

  abbrev pub all : List Portion
  all = portions_of (segments_of text)

  pub mended_is : mended text ≡ front_text (cut_of text).front ++ flat_map portion_text all
  unfolding mended
  mended_is = rw some refl

  good_all : All IsGood all
  good_all = subst (All IsGood) (sym portions.are) portions.good

  cut_all : AreAccessUnits (parts_of all)
  cut_all =
      subst (λ l. AreAccessUnits (parts_of l)) (sym portions.are)
      (parts_are portions.first portions.others portions.good portions.linked alone)
    where
      alone : portions.others ≡ [] → fits portions.first ≡ true → 0 < length (units_of portions.first)
      alone none fit =
          let units = some_units all some in
          let only : length (units_in (parts_of (portions.first ∷ []))) ≡ length (units_of portions.first) =
          rw fit (ap length (append-nil (units_of portions.first))) in
          omega (arith, units, only, ap (λ l. length (units_in (parts_of l))) (portions.are ∙ ap (λ l. portions.first ∷ l) none))

  pub mended_stream : IsStream (mended text) (parts_of all)
  mended_stream = record {
    has = record {
      units = units_in (parts_of all);
      has = has_units (HasRest-zeros (length (cut_of text).front - length (foreign (cut_of text).front)) (flat_map portion_text all) (units_in (parts_of all)) (portions_rest all good_all));
      cut = record { units_are = refl; parts_are = cut_all };
    };
    accepted = accepted_all all good_all (filled_parts (parts_of all) cut_all);
  }
    where
      has_units : HasRest (front_text (cut_of text).front ++ flat_map portion_text all) (units_in (parts_of all)) → HasUnits (mended text) (units_in (parts_of all))
      has_units rest = record {
        zeros = rest.zeros;
        rest = rest.rest;
        text_is = mended_is ∙ rest.text_is;
        rest_is = rest.rest_is;
        filled = some_units all some;
      }

-- what is written is nothing where no NAL unit stays
pub nothing_mended : (text : List ℕ) → list_any stays (portions_of (segments_of text)) ≡ false → mended text ≡ []
unfolding mended
nothing_mended text none = rw none refl

-- so some bytes are a stream
pub stream_of_some : (text : List ℕ) → 0 < length (mended text) → (parts : List (List (List ℕ))) × IsStream (mended text) parts
stream_of_some text some = cases (list_any stays (portions_of (segments_of text))) refl
  where
    cases : (b : Bool) → list_any stays (portions_of (segments_of text)) ≡ b → (parts : List (List (List ℕ))) × IsStream (mended text) parts
    cases true any = (parts_of (portions_of (segments_of text)), mended_stream text any)
    cases false none = absurd (omega (arith, ap length (nothing_mended text none)))
