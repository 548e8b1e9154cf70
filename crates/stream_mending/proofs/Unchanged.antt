-- A stream that isn't refused stays as it is.
use Rattle.std.proofs.Common.{◌≡◌, ℕ, zero, suc, ◌+◌, ◌-◌, ◌<◌, ◌≤◌, Bool, true, false, ◌&&◌, ◌||◌, cond, leb, ltb, List, [], ◌∷◌, ◌++◌, length, map, drop, replicate, All, Option, None, Some, arith, refl, ap, sym, subst, ◌∙◌, length-append, append_assoc}
use Rattle.std.proofs.lemmas.Bool.{false≢true, or_from, le-leb, leb-false, lt-ltb}
use Rattle.std.proofs.lemmas.List.{append-nil, take_at, get_or_at, length-replicate}
use Rattle.std.proofs.lemmas.List.Elements.{All-head, All-tail, All-cons, All-nil, filter-append}
use Rattle.std.proofs.lemmas.Grind.{flat_map-append}
use Rattle.std.specs.List.{flat_map, filter, list_any}
use Rattle.std.specs.Option.{option_or}
use Rattle.annexb.specs.NalUnit.{IsUnit, is_slice, nal_unit_type, begins_forbidden, begins_at_macroblock_zero, forbidden_zero_bit}
use Rattle.annexb.specs.Faults.{is_nothing, zero_run, after_zeros}
use Rattle.annexb.specs.ByteStream.{start_code, AreUnits, HasUnits, joined}
use Rattle.annexb.specs.AccessUnits.{precedes_slices, begins_access_unit, is_boundary, IsWhole, AreAccessUnits}
use Rattle.annexb.proofs.ZeroRuns.{after_zeros-replicate}
use Rattle.slice_header.specs.Fronts.{slice_type_at}
use Rattle.access_unit.specs.Sets.{is_sps, is_pps, sps_of, pps_of, is_unreadable}
use Rattle.access_unit.specs.Refusals.{is_refused_type, is_switching, is_inter, is_idr, is_not_reference, has_slice, mixes_idr, mixes_reference, header_rows, set_rows, order_rows, refusal_at, first_refusal, refusal_of, most_bytes}
use Rattle.access_unit.specs.Answers.{IsAccepted}
use Rattle.access_unit.specs.StreamUnits.{IsStream}
use Rattle.access_unit.specs.declared.refused.Refused.{Refused}
use Rattle.stream_mending.specs.Segments.{Segment, cut_of, foreign, trimmed, end_zeros, segment_at, segments_at, segments_of}
use Rattle.stream_mending.specs.Faults.{has_forbidden, is_sound, fault_of, has_none}
use Rattle.stream_mending.specs.Portions.{Portion, put, sound_units, units_of, slices_of, joint_of, joint_after, ended_by, goes_on_in, with_segment, portions_from, portions_of, no_segment, fits, most_slices}
use Rattle.stream_mending.specs.Mended.{segment_text, portion_text, stays, front_text, mended, told, told_front, told_bytes, told_for, told_segment, told_size, told_portion}
use Rattle.stream_mending.specs.StayingUnits.{units_at}
use Rattle.stream_mending.specs.declared.joint.Joint.{Joint}
use Rattle.stream_mending.specs.declared.joint.Joint.TheVariants.{Joins, Begins, NeedsDelimiter}
use Rattle.stream_mending.specs.declared.why.Why.{Why}
use Rattle.stream_mending.specs.declared.why.Why.TheVariants.{NotNalUnit}
use Rattle.stream_mending.proofs.Trims.{trimmed-zeros}
use Rattle.stream_mending.proofs.Portions.{sound_one, units-kept}
use Rattle.stream_mending.proofs.Sound.{parts_sound, parts_join, begins_parts}
use Rattle.stream_mending.proofs.Steps.{step, none_mended, none_told}
use Rattle.stream_mending.proofs.Units.{any-slice}
use Rattle.stream_mending.proofs.Written.{units_in, stream_of_some}
use Rattle.stream_mending.proofs.Cuts.{cut_at}
use Rattle.stream_mending.proofs.Accepted.{no_code_zeros, drop_zeros_on, trimmed_all, units_cut, uncut, uncut-cut_of}

-- the first of some rows isn't shown, nor are the others
row_none : (shown : Bool) (refused : Refused) (others : Option Refused) → cond shown (Some refused) others ≡ None
    → (shown ≡ false) × (others ≡ None)
row_none true refused others h = cc
row_none false refused others h = (refl, h)

-- what a NAL unit that isn't refused shows
module _ (before : List (List ℕ)) (unit : List ℕ) (is_unit : IsUnit unit) (none : refusal_at before unit ≡ None) where
  abbrev slices : List (List ℕ)
  slices = filter is_slice before

  record Rows : Type 0 where
    type_read : is_refused_type (nal_unit_type unit) ≡ false
    bit : forbidden_zero_bit unit ≡ false
    sps : (is_sps unit && is_unreadable (sps_of unit)) ≡ false
    pps : (is_pps unit && is_unreadable (pps_of unit)) ≡ false
    switching : (is_slice unit && is_switching (slice_type_at unit)) ≡ false
    idr : (is_slice unit && mixes_idr slices unit) ≡ false
    intra : (is_idr unit && is_inter (slice_type_at unit)) ≡ false
    reference : (is_idr unit && is_not_reference unit) ≡ false
    mixed : (is_slice unit && mixes_reference slices unit) ≡ false
    few : (is_slice unit && leb 256 (length slices)) ≡ false

  rows : Rows
  unfolding refusal_at header_rows set_rows order_rows
  rows =
      let a = row_none (is_refused_type (nal_unit_type unit)) _ _ none in
      let b = row_none (forbidden_zero_bit unit) _ _ a.1 in
      let d = row_none (is_sps unit && is_unreadable (sps_of unit)) _ _ b.1 in
      let e = row_none (is_pps unit && is_unreadable (pps_of unit)) _ _ d.1 in
      let f = row_none (is_slice unit && is_switching (slice_type_at unit)) _ _ e.1 in
      let g = row_none (is_slice unit && mixes_idr slices unit) _ _ f.1 in
      let h = row_none (is_idr unit && is_inter (slice_type_at unit)) _ _ g.1 in
      let i = row_none (is_idr unit && is_not_reference unit) _ _ h.1 in
      let j = row_none (is_slice unit && mixes_reference slices unit) _ _ i.1 in
      let k = row_none (precedes_slices (nal_unit_type unit) && has_slice slices) _ _ j.1 in
      let l = row_none (begins_at_macroblock_zero unit && has_slice slices) _ _ k.1 in
      let m = row_none (is_slice unit && leb 256 (length slices)) _ _ l.1 in
      record {
        type_read = a.0;
        bit = b.0;
        sps = d.0;
        pps = e.0;
        switching = f.0;
        idr = g.0;
        intra = h.0;
        reference = i.0;
        mixed = j.0;
        few = m.0;
      }

  forbidden_none : (l : List ℕ) → ((at : ℕ) → begins_forbidden (drop at l) ≡ false) → has_forbidden l ≡ false
  forbidden_none [] h = refl
  forbidden_none (byte ∷ l) h = or_from (begins_forbidden (byte ∷ l)) (has_forbidden l) (h 0) (forbidden_none l (λ at. h (suc at)))

  some_nothing : (l : List ℕ) → 0 < length l → is_nothing l ≡ false
  some_nothing [] some = absurd (omega arith)
  some_nothing (byte ∷ l) some = refl

  pub accepted_sound : is_sound unit ≡ true
  accepted_sound = parts_sound unit (record {
    filled = some_nothing unit is_unit.filled;
    allowed = forbidden_none unit is_unit.allowed;
    bit = rows.bit;
    type_read = rows.type_read;
    sps = rows.sps;
    pps = rows.pps;
    switching = rows.switching;
    intra = rows.intra;
    reference = rows.reference;
  })

  both : (a b c : Bool) → (a && b) ≡ false → (a && c) ≡ false → (a && (b || c)) ≡ false
  both true b c h h' = or_from b c h h'
  both false b c h h' = refl

  pub accepted_joins : is_boundary before unit ≡ false → joint_of slices unit ≡ Joins
  accepted_joins inside = parts_join slices unit (record {
    inside = ap (λ b. b && begins_access_unit unit) (sym (any-slice before)) ∙ inside;
    same = both (is_slice unit) (mixes_idr slices unit) (mixes_reference slices unit) rows.idr rows.mixed;
  })

  -- and how many slices there are with it
  pub accepted_few : length slices ≤ 256 → length (filter is_slice (before ++ unit ∷ [])) ≤ 256
  accepted_few few = cases (is_slice unit) refl
    where
      cases : (b : Bool) → is_slice unit ≡ b → length (filter is_slice (before ++ unit ∷ [])) ≤ 256
      cases true e =
          let below = leb-false 256 (length slices) (rw e at rows.few) in
          rw (filter-append is_slice before (unit ∷ [])) (rw e (omega (arith, below, length-append (filter is_slice before) (unit ∷ []))))
      cases false e = rw (filter-append is_slice before (unit ∷ [])) (rw (e, append-nil) few)

-- what the access units of such segments are
pub record AreParts (portions : List Portion) (segments : List Segment) (parts : List (List (List ℕ))) : Type 0 where
  pub are : map (λ portion. sound_units portion.segments) portions ≡ parts
  pub bare : All (λ portion. portion.is_delimited ≡ false) portions
  pub sound : All (λ segment. is_sound segment.unit ≡ true) segments

-- the refusal of NAL units, of which some stand before
refusal_split : (before units : List (List ℕ)) (unit : List ℕ) (others : List (List ℕ))
    → first_refusal before (units ++ unit ∷ others) ≡ None → refusal_at (before ++ units) unit ≡ None
refusal_split before [] unit others none = rw append-nil (first_half (refusal_at before unit) (first_refusal (before ++ unit ∷ []) others) none)
  where
    first_half : (o p : Option Refused) → option_or o p ≡ None → o ≡ None
    first_half None p h = refl
    first_half (Some refused) p h = cc
refusal_split before (first ∷ units) unit others none =
    rw (← append_assoc before (first ∷ []) units)
    (refusal_split (before ++ first ∷ []) units unit others (second_part (refusal_at before first) (first_refusal (before ++ first ∷ []) (units ++ unit ∷ others)) none))
  where
    second_part : (o p : Option Refused) → option_or o p ≡ None → p ≡ None
    second_part None p h = h
    second_part (Some refused) p h = cc

-- a NAL unit within an access unit that is accepted
module _ (front : List (List ℕ)) (unit : List ℕ) (others : List (List ℕ)) (are_units : All IsUnit (front ++ unit ∷ others))
    (none : refusal_of (front ++ unit ∷ others) ≡ None) where
  unit_is : (front : List (List ℕ)) → All IsUnit (front ++ unit ∷ others) → IsUnit unit
  unit_is [] all = All-head IsUnit unit others all
  unit_is (first ∷ front) all = unit_is front (All-tail IsUnit first (front ++ unit ∷ others) all)

  here : refusal_at front unit ≡ None
  here = refusal_split [] front unit others none

  pub inner_sound : is_sound unit ≡ true
  inner_sound = accepted_sound front unit (unit_is front are_units) here

  pub inner_joins : IsWhole (front ++ unit ∷ others) → joint_of (filter is_slice front) unit ≡ Joins
  inner_joins whole =
      let found = whole (length front) (omega (arith, length-append front (unit ∷ others))) in
      let inside : is_boundary front unit ≡ false =
      rw (take_at front (unit ∷ others) (length front) refl, get_or_at front unit others [] (length front) refl) at found in
      accepted_joins front unit (unit_is front are_units) here inside

-- the access unit that is begun, with the segment that begins it
abbrev begun_with : Segment → Portion
begun_with segment = record { is_delimited = false; segments = segment ∷ [] }

abbrev Bare : Portion → Type 0
Bare portion = portion.is_delimited ≡ false

abbrev Sound : Segment → Type 0
Sound segment = is_sound segment.unit ≡ true

-- where a segment begins the next access unit
begins_on : (segments : List Segment) (portion : Portion) (segment : Segment) (parts : List (List (List ℕ)))
    → portion.is_delimited ≡ false → is_sound segment.unit ≡ true → joint_of (slices_of portion) segment.unit ≡ Begins
    → AreParts (portions_from (begun_with segment) segments) segments parts
    → AreParts (portions_from portion (segment ∷ segments)) (segment ∷ segments) (sound_units portion.segments ∷ parts)
begins_on segments portion segment parts bare sound begins later =
    let after : joint_after portion segment ≡ Begins = rw sound begins in
    let portions = step portion segment segments Begins after in
    record {
      are = ap (map (λ p. sound_units p.segments)) portions ∙ ap (λ l. sound_units portion.segments ∷ l) later.are;
      bare = subst (All Bare) (sym portions) (All-cons Bare portion (portions_from (begun_with segment) segments) bare later.bare);
      sound = All-cons Sound segment segments sound later.sound;
    }

-- where it joins the one before it
joins_on : (segments : List Segment) (portion : Portion) (segment : Segment) (parts : List (List (List ℕ)))
    → is_sound segment.unit ≡ true → joint_of (slices_of portion) segment.unit ≡ Joins
    → AreParts (portions_from (with_segment portion segment) segments) segments parts
    → AreParts (portions_from portion (segment ∷ segments)) (segment ∷ segments) parts
joins_on segments portion segment parts sound joins later =
    let after : joint_after portion segment ≡ Joins = rw sound joins in
    let portions = step portion segment segments Joins after in
    record {
      are = ap (map (λ p. sound_units p.segments)) portions ∙ later.are;
      bare = subst (All Bare) (sym portions) later.bare;
      sound = All-cons Sound segment segments sound later.sound;
    }

-- the access units of segments whose NAL units are cut so, where these stand before in the first one
abbrev Fine : List (List ℕ) → Type 0
Fine part = All IsUnit part × (refusal_of part ≡ None)

parts_on : (segments : List Segment) (portion : Portion) (front rest : List (List ℕ)) (parts : List (List (List ℕ)))
    → sound_units portion.segments ≡ front → portion.is_delimited ≡ false → units_at segments ≡ rest ++ units_in parts
    → AreAccessUnits ((front ++ rest) ∷ parts) → All Fine ((front ++ rest) ∷ parts)
    → AreParts (portions_from portion segments) segments ((front ++ rest) ∷ parts)
parts_on [] portion front [] [] is bare units cut fine = record {
  are = ap (λ l. l ∷ []) (is ∙ sym (append-nil front));
  bare = All-cons Bare portion [] bare (All-nil Bare);
  sound = All-nil Sound;
}
parts_on [] portion front [] ([] ∷ parts) is bare units cut fine = absurd (omega (arith, cut.3.0))
parts_on [] portion front [] ((unit ∷ part) ∷ parts) is bare units cut fine = cc
parts_on [] portion front (unit ∷ rest) parts is bare units cut fine = cc
parts_on (segment ∷ segments) portion front [] [] is bare units cut fine = cc
parts_on (segment ∷ segments) portion front [] ([] ∷ parts) is bare units cut fine = absurd (omega (arith, cut.3.0))
parts_on (segment ∷ segments) portion front [] ((unit ∷ part) ∷ parts) is bare units cut fine =
    let head : segment.unit ≡ unit = cc in
    let tail : units_at segments ≡ part ++ units_in parts = cc in
    let others = All-tail Fine (front ++ []) ((unit ∷ part) ∷ parts) fine in
    let next = All-head Fine (unit ∷ part) parts others in
    let sound : is_sound segment.unit ≡ true = ap is_sound head ∙ inner_sound [] unit part next.0 next.1 in
    let boundary : is_boundary front unit ≡ true = rw append-nil at cut.2 in
    let begins : (has_slice (slices_of portion) && begins_access_unit segment.unit) ≡ true =
    ap (λ u. has_slice (slices_of portion) && begins_access_unit u) head
    ∙ (ap (λ l. has_slice (filter is_slice l) && begins_access_unit unit) is
    ∙ (ap (λ b. b && begins_access_unit unit) (sym (any-slice front)) ∙ boundary)) in
    let one : sound_units (segment ∷ []) ≡ unit ∷ [] = sound_one segment sound ∙ ap (λ u. u ∷ []) head in
    let later = parts_on segments (begun_with segment) (unit ∷ []) part parts one refl tail cut.3 others in
    rw append-nil (subst (λ l. AreParts (portions_from portion (segment ∷ segments)) (segment ∷ segments) (l ∷ (unit ∷ part) ∷ parts)) is
    (begins_on segments portion segment ((unit ∷ part) ∷ parts) bare sound (begins_parts (slices_of portion) segment.unit begins) later))
parts_on (segment ∷ segments) portion front (unit ∷ rest) parts is bare units cut fine =
    let head : segment.unit ≡ unit = cc in
    let tail : units_at segments ≡ rest ++ units_in parts = cc in
    let here = All-head Fine (front ++ unit ∷ rest) parts fine in
    let sound : is_sound segment.unit ≡ true = ap is_sound head ∙ inner_sound front unit rest here.0 here.1 in
    let joins : joint_of (slices_of portion) segment.unit ≡ Joins =
    ap (λ u. joint_of (slices_of portion) u) head ∙ (ap (λ l. joint_of (filter is_slice l) unit) is ∙ inner_joins front unit rest here.0 here.1 cut.1) in
    let more : sound_units (with_segment portion segment).segments ≡ front ++ unit ∷ [] =
    units-kept portion segment sound ∙ (ap (λ l. l ++ segment.unit ∷ []) is ∙ ap (λ u. front ++ u ∷ []) head) in
    let same : (front ++ unit ∷ []) ++ rest ≡ front ++ unit ∷ rest = append_assoc front (unit ∷ []) rest in
    let later = parts_on segments (with_segment portion segment) (front ++ unit ∷ []) rest parts more bare tail
    (subst (λ l. AreAccessUnits (l ∷ parts)) (sym same) cut) (subst (λ l. All Fine (l ∷ parts)) (sym same) fine) in
    joins_on segments portion segment ((front ++ unit ∷ rest) ∷ parts) sound joins
    (subst (λ l. AreParts (portions_from (with_segment portion segment) segments) segments (l ∷ parts)) same later)

-- how many slices an access unit has that isn't refused
few_on : (front units : List (List ℕ)) → All IsUnit units → length (filter is_slice front) ≤ 256 → first_refusal front units ≡ None
    → length (filter is_slice (front ++ units)) ≤ 256
few_on front [] all few none = rw append-nil few
few_on front (unit ∷ units) all few none =
    rw (← append_assoc front (unit ∷ []) units)
    (few_on (front ++ unit ∷ []) units (All-tail IsUnit unit units all)
    (accepted_few front unit (All-head IsUnit unit units all) (first_half (refusal_at front unit) (first_refusal (front ++ unit ∷ []) units) none) few)
    (second_half (refusal_at front unit) (first_refusal (front ++ unit ∷ []) units) none))
  where
    first_half : (o p : Option Refused) → option_or o p ≡ None → o ≡ None
    first_half None p h = refl
    first_half (Some refused) p h = cc

    second_half : (o p : Option Refused) → option_or o p ≡ None → p ≡ None
    second_half None p h = h
    second_half (Some refused) p h = cc

-- so an accepted access unit without a delimiter fits
pub accepted_fits : (portion : Portion) (part : List (List ℕ)) → portion.is_delimited ≡ false → sound_units portion.segments ≡ part
    → IsAccepted (joined part) part → All IsUnit part → fits portion ≡ true
unfolding fits
accepted_fits portion part bare is accepted all =
    let few = few_on [] part all (omega arith) accepted.sound in
    let slices : length (slices_of portion) ≤ most_slices = rw is few in
    let units : units_of portion ≡ part = ap (λ b. put b ++ sound_units portion.segments) bare ∙ is in
    let short : length (joined (units_of portion)) ≤ most_bytes = rw units accepted.short in
    rw (le-leb (length (joined (units_of portion))) most_bytes short, le-leb (length (slices_of portion)) most_slices slices) refl

-- the cut of zeros and NAL units
zeros_cut : (count : ℕ) (after : List ℕ)
    → cut_of (replicate count 0 ++ (start_code ++ after))
    ≡ record { front = replicate count 0; rest = (cut_of after).front ∷ (cut_of after).rest }
zeros_cut count after = cut_at (replicate count 0) after (λ k below more e.
    let size : length (replicate count 0) ≡ count = length-replicate {A = ℕ} count 0 in
    no_code_zeros (count - k) after (omega arith) more (sym (drop_zeros_on count k (start_code ++ after) (omega arith)) ∙ e))

pub record IsCutInto (text : List ℕ) (units : List (List ℕ)) : Type 0 where
  pub count : ℕ
  pub piece : List ℕ
  pub pieces : List (List ℕ)
  pub is : cut_of text ≡ record { front = replicate count 0; rest = piece ∷ pieces }
  pub units_are : trimmed_all (piece ∷ pieces) ≡ units

text_cut : (text : List ℕ) (units : List (List ℕ)) → HasUnits text units → IsCutInto text units
text_cut text [] has = absurd (omega (arith, has.filled))
text_cut text (unit ∷ units) has =
    let begins = has.rest_is.1 in
    let after : List ℕ = unit ++ (replicate begins.zeros 0 ++ has.rest_is.0) in
    let rest : has.rest ≡ start_code ++ after = begins.bytes_are in
    let cut = ap cut_of (has.text_is ∙ ap (λ l. replicate has.zeros 0 ++ l) rest) ∙ zeros_cut has.zeros after in
    record {
      count = has.zeros;
      piece = (cut_of after).front;
      pieces = (cut_of after).rest;
      is = cut;
      units_are = sym (ap (λ c. trimmed_all c.rest) (ap cut_of rest)) ∙ (units_cut has.rest (unit ∷ units) has.rest_is).1;
    }

units_of_pieces : (place : ℕ) (pieces : List (List ℕ)) → units_at (segments_at place pieces) ≡ trimmed_all pieces
units_of_pieces place [] = refl
units_of_pieces place (bytes ∷ pieces) = ap (λ l. trimmed bytes ∷ l) (units_of_pieces (place + (3 + length bytes)) pieces)

-- sound segments are written as they came
sound_text : (place : ℕ) (pieces : List (List ℕ)) → All Sound (segments_at place pieces)
    → flat_map segment_text (segments_at place pieces) ≡ flat_map (λ bytes. start_code ++ bytes) pieces
sound_text place [] sound = refl
sound_text place (bytes ∷ pieces) sound =
    let here : is_sound (trimmed bytes) ≡ true = All-head Sound (segment_at place bytes) (segments_at (place + (3 + length bytes)) pieces) sound in
    let later = sound_text (place + (3 + length bytes)) pieces (All-tail Sound (segment_at place bytes) (segments_at (place + (3 + length bytes)) pieces) sound) in
    let text : segment_text (segment_at place bytes) ≡ start_code ++ bytes =
    rw here (append_assoc start_code (trimmed bytes) (replicate (end_zeros bytes) 0) ∙ ap (λ l. start_code ++ l) (sym (trimmed-zeros bytes))) in
    ap (λ l. l ++ flat_map segment_text (segments_at (place + (3 + length bytes)) pieces)) text ∙ ap (λ l. (start_code ++ bytes) ++ l) later

-- the segments of access units are all
pub all_segments : (segments : List Segment) (portion : Portion)
    → flat_map (λ p. p.segments) (portions_from portion segments) ≡ portion.segments ++ segments
all_segments [] portion = refl
all_segments (segment ∷ segments) portion =
    more (joint_after portion segment) (λ next. all_segments segments next)
  where
    more : (joint : Joint) → ((next : Portion) → flat_map (λ p. p.segments) (portions_from next segments) ≡ next.segments ++ segments)
        → flat_map (λ p. p.segments) (ended_by joint portion ++ portions_from (with_segment (goes_on_in joint portion) segment) segments)
        ≡ portion.segments ++ segment ∷ segments
    more Joins later = later (with_segment portion segment) ∙ append_assoc portion.segments (segment ∷ []) segments
    more Begins later = ap (λ l. portion.segments ++ l) (later (begun_with segment))
    more NeedsDelimiter later =
        ap (λ l. portion.segments ++ l) (later (record { is_delimited = true; segments = segment ∷ [] }))

-- access units that fit, without delimiters
abbrev Fits : Portion → Type 0
Fits portion = fits portion ≡ true

whole_texts : (portions : List Portion) → All Fits portions → All Bare portions
    → flat_map portion_text portions ≡ flat_map segment_text (flat_map (λ p. p.segments) portions)
whole_texts [] fit bare = refl
whole_texts (portion ∷ portions) fit bare =
    let here : fits portion ≡ true = All-head Fits portion portions fit in
    let plain : portion.is_delimited ≡ false = All-head Bare portion portions bare in
    let text : portion_text portion ≡ flat_map segment_text portion.segments =
    rw here (ap (λ b. joined (put b) ++ flat_map segment_text portion.segments) plain) in
    ap (λ l. l ++ flat_map portion_text portions) text
    ∙ (ap (λ l. flat_map segment_text portion.segments ++ l) (whole_texts portions (All-tail Fits portion portions fit) (All-tail Bare portion portions bare))
    ∙ sym (flat_map-append segment_text portion.segments (flat_map (λ p. p.segments) portions)))

-- nothing is told of what is sound
nothing_for : (segment : Segment) → is_sound segment.unit ≡ true → told_segment segment ≡ []
nothing_for segment sound = cases (fault_of segment.unit) sound
  where
    cases : (o : Option Why) → has_none o ≡ true → told_for segment o ≡ []
    cases None h = refl
    cases (Some why) h = absurd (false≢true h)

nothing_told : (segments : List Segment) → All Sound segments → flat_map told_segment segments ≡ []
nothing_told [] sound = refl
nothing_told (segment ∷ segments) sound =
    ap (λ l. l ++ flat_map told_segment segments) (nothing_for segment (All-head Sound segment segments sound))
    ∙ nothing_told segments (All-tail Sound segment segments sound)

no_tales : (portions : List Portion) → All Fits portions → flat_map told_portion portions ≡ flat_map told_segment (flat_map (λ p. p.segments) portions)
no_tales [] fit = refl
no_tales (portion ∷ portions) fit =
    let here : fits portion ≡ true = All-head Fits portion portions fit in
    let size : told_size portion ≡ [] = rw here refl in
    ap (λ l. (flat_map told_segment portion.segments ++ l) ++ flat_map told_portion portions) size
    ∙ (ap (λ l. l ++ flat_map told_portion portions) (append-nil (flat_map told_segment portion.segments))
    ∙ (ap (λ l. flat_map told_segment portion.segments ++ l) (no_tales portions (All-tail Fits portion portions fit))
    ∙ sym (flat_map-append told_segment portion.segments (flat_map (λ p. p.segments) portions))))

-- NAL units of a text are units
all_units : (bytes : List ℕ) (units : List (List ℕ)) → AreUnits bytes units → All IsUnit units
all_units bytes [] are = All-nil IsUnit
all_units bytes (unit ∷ units) (rest, begins, more) = All-cons IsUnit unit units begins.unit_is (all_units rest units more)

abbrev Accepted : List (List ℕ) → Type 0
Accepted part = IsAccepted (joined part) part

all_fine : (parts : List (List (List ℕ))) → All Accepted parts → All Fine parts
all_fine [] all = All-nil Fine
all_fine (part ∷ parts) all =
    let here : IsAccepted (joined part) part = All-head Accepted part parts all in
    All-cons Fine part parts (all_units here.has.rest part here.has.rest_is, here.sound) (all_fine parts (All-tail Accepted part parts all))

all_fit : (portions : List Portion) (parts : List (List (List ℕ))) → map (λ p. sound_units p.segments) portions ≡ parts
    → All Bare portions → All Accepted parts → All Fits portions
all_fit [] parts are bare all = All-nil Fits
all_fit (portion ∷ portions) [] are bare all = cc
all_fit (portion ∷ portions) (part ∷ parts) are bare all =
    let head : sound_units portion.segments ≡ part = cc in
    let tail : map (λ (p : Portion). sound_units p.segments) portions ≡ parts = cc in
    let here : IsAccepted (joined part) part = All-head Accepted part parts all in
    All-cons Fits portion portions
    (accepted_fits portion part (All-head Bare portion portions bare) head here (all_units here.has.rest part here.has.rest_is))
    (all_fit portions parts tail (All-tail Bare portion portions bare) (All-tail Accepted part parts all))

-- some of them has a NAL unit
some_stays : (portions : List Portion) (part : List (List ℕ)) (parts : List (List (List ℕ)))
    → map (λ p. sound_units p.segments) portions ≡ part ∷ parts → All Bare portions → All Fits portions → 0 < length part
    → list_any stays portions ≡ true
some_stays [] part parts are bare fit some = cc
some_stays (portion ∷ portions) part parts are bare fit some =
    let head : sound_units portion.segments ≡ part = cc in
    let units : units_of portion ≡ part = ap (λ b. put b ++ sound_units portion.segments) (All-head Bare portion portions bare) ∙ head in
    let filled : ltb 0 (length (units_of portion)) ≡ true = lt-ltb 0 (length (units_of portion)) (rw units some) in
    rw (All-head Fits portion portions fit, filled) refl

-- zeros in front stay
no_foreign : (count : ℕ) → foreign (replicate count 0) ≡ []
no_foreign count = ap trimmed (ap after_zeros (sym (append-nil (replicate count 0))) ∙ after_zeros-replicate count [])

front_zeros : (count : ℕ) → front_text (replicate count 0) ≡ replicate count 0
front_zeros count =
    let size : length (replicate count 0) - length (foreign (replicate count 0)) ≡ count =
    omega (arith, length-replicate {A = ℕ} count 0, ap length (no_foreign count)) in
    ap (λ n. replicate n 0) size

front_untold : (count : ℕ) (piece : List ℕ) (pieces : List (List ℕ)) → told_front (replicate count 0) (piece ∷ pieces) ≡ []
front_untold count piece pieces = ap (λ l. told_bytes (zero_run (replicate count 0)) (length l) NotNalUnit) (no_foreign count)

-- what the access units of a stream's segments are
record IsAll (text : List ℕ) (portions : List Portion) : Type 0 where
  segments_are : flat_map (λ p. p.segments) portions ≡ segments_of text
  fit : All Fits portions
  bare : All Bare portions
  sound : All Sound (segments_of text)
  stay : list_any stays portions ≡ true

-- a stream has an access unit
first_part : (units : List (List ℕ)) (parts : List (List (List ℕ))) → units_in parts ≡ units → 0 < length units
    → (part : List (List ℕ)) × (others : List (List (List ℕ))) × (parts ≡ part ∷ others)
first_part units [] are some = absurd (omega (arith, ap length are))
first_part units (part ∷ others) are some = (part, others, refl)

module _ (text : List ℕ) (parts : List (List (List ℕ))) (stream : IsStream text parts) where
  pub cut : IsCutInto text stream.has.units
  cut = text_cut text stream.has.units stream.has.has

  units_there : units_at (segments_of text) ≡ stream.has.units
  units_there =
      ap (λ c. units_at (segments_at (length c.front) c.rest)) cut.is
      ∙ (units_of_pieces (length (replicate cut.count 0)) (cut.piece ∷ cut.pieces) ∙ cut.units_are)

  are_parts : AreParts (portions_of (segments_of text)) (segments_of text) parts
  are_parts =
      let first = first_part stream.has.units parts stream.has.cut.units_are stream.has.has.filled in
      let units : units_at (segments_of text) ≡ first.0 ++ units_in first.1 =
      units_there ∙ (sym stream.has.cut.units_are ∙ ap units_in first.2) in
      subst (λ l. AreParts (portions_of (segments_of text)) (segments_of text) l) (sym first.2)
      (parts_on (segments_of text) no_segment [] first.0 first.1 refl refl units
      (subst AreAccessUnits first.2 stream.has.cut.parts_are) (all_fine (first.0 ∷ first.1) (subst (All Accepted) first.2 stream.accepted)))

  is_all : IsAll text (portions_of (segments_of text))
  is_all =
      let first = first_part stream.has.units parts stream.has.cut.units_are stream.has.has.filled in
      let fit = all_fit (portions_of (segments_of text)) parts are_parts.are are_parts.bare stream.accepted in
      let filled : AreAccessUnits (first.0 ∷ first.1) = subst AreAccessUnits first.2 stream.has.cut.parts_are in
      record {
        segments_are = all_segments (segments_of text) no_segment;
        fit = fit;
        bare = are_parts.bare;
        sound = are_parts.sound;
        stay = some_stays (portions_of (segments_of text)) first.0 first.1 (are_parts.are ∙ first.2) are_parts.bare fit filled.0;
      }

  pub stays_as_it_is : mended text ≡ text
  unfolding mended
  stays_as_it_is =
      let portions = portions_of (segments_of text) in
      let place = length (replicate cut.count 0) in
      let pieces = cut.piece ∷ cut.pieces in
      let segments : segments_of text ≡ segments_at place pieces = ap (λ c. segments_at (length c.front) c.rest) cut.is in
      let body : flat_map portion_text portions ≡ flat_map (λ bytes. start_code ++ bytes) pieces =
      whole_texts portions is_all.fit is_all.bare ∙ (ap (flat_map segment_text) (is_all.segments_are ∙ segments)
      ∙ sound_text place pieces (subst (All Sound) segments is_all.sound)) in
      let front : front_text (cut_of text).front ≡ replicate cut.count 0 =
      ap (λ c. front_text c.front) cut.is ∙ front_zeros cut.count in
      let whole : uncut (cut_of text) ≡ replicate cut.count 0 ++ flat_map (λ bytes. start_code ++ bytes) pieces = ap uncut cut.is in
      rw is_all.stay (ap (λ l. l ++ flat_map portion_text portions) front
      ∙ (ap (λ l. replicate cut.count 0 ++ l) body ∙ (sym whole ∙ uncut-cut_of text)))

  pub nothing_left_out : told text ≡ []
  unfolding told
  nothing_left_out =
      let portions = portions_of (segments_of text) in
      let front : told_front (cut_of text).front (cut_of text).rest ≡ [] =
      ap (λ c. told_front c.front c.rest) cut.is ∙ front_untold cut.count cut.piece cut.pieces in
      ap (λ l. l ++ flat_map told_portion portions) front
      ∙ (no_tales portions is_all.fit ∙ (ap (flat_map told_segment) is_all.segments_are ∙ nothing_told (segments_of text) is_all.sound))

-- what was mended stays so
nothing_twice : (l : List ℕ) → length l ≡ 0 → (mended l ≡ l) × (told l ≡ [])
nothing_twice [] none = (sym (none_mended [] refl), sym (none_told [] refl))
nothing_twice (byte ∷ l) none = absurd (omega arith)

pub twice : (text : List ℕ) → (mended (mended text) ≡ mended text) × (told (mended text) ≡ [])
twice text = cases (length (mended text)) refl
  where
    cases : (n : ℕ) → length (mended text) ≡ n → (mended (mended text) ≡ mended text) × (told (mended text) ≡ [])
    cases zero none = nothing_twice (mended text) none
    cases (suc n) some =
        let stream = stream_of_some text (omega arith) in
        (stays_as_it_is (mended text) stream.0 stream.1, nothing_left_out (mended text) stream.0 stream.1)
