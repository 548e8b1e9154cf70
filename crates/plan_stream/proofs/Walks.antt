-- The walk along NAL units: its first step, one more, its end, and how it goes on where more bytes follow.
use Rattle.std.proofs.Common.{◌≡◌, ◌≢◌, ℕ, ◌+◌, ◌-◌, ◌<◌, ◌≤◌, Bool, true, false, ◌&&◌, ◌||◌, leb, List, [], ◌∷◌, ◌++◌, length, take, drop, replicate, slice_range, All, Option, None, Some, is_some, IfSome, arith, refl, ap, sym, ◌∙◌, length-append, length-drop, append_assoc, append-nil}
use Rattle.std.proofs.lemmas.Bool.{and_parts, leb-true, eqb-true, false≢true}
use Rattle.std.proofs.lemmas.List.{take_at, drop_at, take-append-le, drop-append-le, take_all, drop-drop, length-replicate, length-map, map-append, append_cancel_left}
use Rattle.std.proofs.lemmas.List.Elements.{All-nil, All-head, All-tail, All-push, All-weaker}
use Rattle.std.specs.declared.ops.Range.{Range}
use Rattle.annexb.specs.NalUnit.{IsUnit, is_slice}
use Rattle.annexb.specs.ByteStream.{start_code, FollowsStartCode, BeginsWithUnit, AreUnits, HasUnits}
use Rattle.annexb.specs.AccessUnits.{begins_access_unit}
use Rattle.annexb.specs.Faults.{zero_run, after_zeros, begins_with_one}
use Rattle.annexb.specs.Search.{IsFirstUnit, IsFoundAt}
use Rattle.annexb.proofs.Splits.{text_left}
use Rattle.annexb.proofs.Clear.{EndsZeros, the_end, a_code, FollowsUnit-zeros}
use Rattle.annexb.proofs.ZeroRuns.{start_code_split, code_in_range}
use Rattle.access_unit.specs.Coded.{HasRest}
use Rattle.access_unit.specs.Places.{IsWithin, units_at}
use Rattle.plan_stream.specs.Fronts.{front_len}
use Rattle.plan_stream.specs.Seen.{IsSeen}
use Rattle.plan_stream.specs.declared.walk.WalkStep.{WalkStep}
use Rattle.plan_stream.specs.declared.walk.WalkStep.TheVariants.{On, Ends, Unseen, Lost}
use Rattle.plan_stream.specs.declared.walk.Walk.{Walk}
use Rattle.plan_stream.specs.Walks.{AreKnown, IsWalkedTo, IsWalkedBy, IsWalkedOn, IsStep, IsEnd}
use Rattle.plan_stream.proofs.Lengths.{ends_at_code, past_zeros, same_begins}
use Rattle.plan_stream.proofs.Cuts.{piece_of, piece_whole, length-piece, goes_on}

-- more bytes after the list change nothing within it
longer : (xs more : List ℕ) (start end : ℕ) → start ≤ end → end ≤ length xs → slice_range (xs ++ more) start end ≡ slice_range xs start end
longer xs more start end ordered within =
    ap (take (end - start)) (drop-append-le start xs more (omega arith))
    ∙ take-append-le (end - start) (drop start xs) more (omega (arith, length-drop start xs))

-- a place of a text is one of a longer text
IsWithin-longer : (front more : List ℕ) (place : Range ℕ) → IsWithin front place → IsWithin (front ++ more) place
IsWithin-longer front more place is = record { ordered = is.ordered; within = omega (arith, is.within, length-append front more) }

-- and the same stands there
units_at-longer : (front more : List ℕ) (places : List (Range ℕ)) → All (IsWithin front) places → units_at (front ++ more) places ≡ units_at front places
units_at-longer front more [] within = refl
units_at-longer front more (place ∷ places) within =
    let first = All-head (IsWithin front) place places within in
    rw (longer front more place.start place.end first.ordered first.within)
    (ap (λ l. slice_range front place.start place.end ∷ l) (units_at-longer front more places (All-tail (IsWithin front) place places within)))

-- what stands in the middle of a text
middle : (front unit after : List ℕ) (start end : ℕ) → length front ≡ start → start + length unit ≡ end → slice_range (front ++ (unit ++ after)) start end ≡ unit
middle front unit after start end at size =
    let count : end - start ≡ length unit = omega arith in
    rw count (ap (take (length unit)) (drop_at front (unit ++ after) start at) ∙ take_at unit after (length unit) refl)

-- units after units
AreUnits-append : (bytes more : List ℕ) (units others : List (List ℕ)) → AreUnits bytes units → AreUnits more others → AreUnits (bytes ++ more) (units ++ others)
AreUnits-append bytes more [] others are are' = rw are are'
AreUnits-append bytes more (unit ∷ units) others (rest, begins, are) are' = (
  rest ++ more,
  record {
    zeros = begins.zeros;
    bytes_are =
        ap (λ l. l ++ more) begins.bytes_are
        ∙ ap (λ l. start_code ++ l) (append_assoc unit (replicate begins.zeros 0 ++ rest) more ∙ ap (λ l. unit ++ l) (append_assoc (replicate begins.zeros 0) rest more));
    unit_is = begins.unit_is;
  },
  AreUnits-append rest more units others are are',
)

-- one more unit
HasRest-push : (front unit : List ℕ) (zeros : ℕ) (units : List (List ℕ)) → HasRest front units → IsUnit unit → HasRest (front ++ piece_of unit zeros) (units ++ unit ∷ [])
HasRest-push front unit zeros units has is_unit = record {
  zeros = has.zeros;
  rest = has.rest ++ piece_of unit zeros;
  text_is = ap (λ l. l ++ piece_of unit zeros) has.text_is ∙ append_assoc (replicate has.zeros 0) has.rest (piece_of unit zeros);
  rest_is = AreUnits-append has.rest (piece_of unit zeros) units (unit ∷ []) has.rest_is ([], record { zeros = zeros; bytes_are = ap (λ l. start_code ++ (unit ++ l)) (sym (append-nil (replicate zeros 0))); unit_is = is_unit }, refl);
}

-- units of a text, where there are some
HasUnits-some : (text : List ℕ) (units : List (List ℕ)) → HasRest text units → 0 < length units → HasUnits text units
HasUnits-some text units has some = record { zeros = has.zeros; rest = has.rest; text_is = has.text_is; rest_is = has.rest_is; filled = some }

known-all : (text : List ℕ) (places : List (Range ℕ)) → All (IsWithin text) places → HasRest text (units_at text places) → AreKnown text places
known-all text places within has some =
    (within, HasUnits-some text (units_at text places) has (omega (arith, length-map places (λ (place : Range ℕ). slice_range text place.start place.end))))

-- before the first unit
one_first : (bytes : List ℕ) → begins_with_one bytes ≡ true → bytes ≡ 1 ∷ drop 1 bytes
one_first [] h = absurd (false≢true h)
one_first (byte ∷ bytes) h = let one : byte ≡ 1 = eqb-true byte 1 h in ap (λ b. b ∷ bytes) one

module _ (bytes : List ℕ) (first : ℕ) (h : IsFirstUnit bytes (Some first)) where
  parts : (leb 2 (zero_run bytes) ≡ true) × (begins_with_one (after_zeros bytes) ≡ true)
  parts = and_parts (leb 2 (zero_run bytes)) (begins_with_one (after_zeros bytes)) h.0

  enough : 2 ≤ zero_run bytes
  enough = leb-true 2 (zero_run bytes) parts.0

  one_there : after_zeros bytes ≡ 1 ∷ drop first bytes
  one_there = one_first (after_zeros bytes) parts.1 ∙ ap (λ l. 1 ∷ l) (drop-drop 1 (zero_run bytes) bytes ∙ ap (λ n. drop n bytes) (sym h.1))

  pub walked-first : IsWalkedTo bytes [] first false
  walked-first =
      let count = zero_run bytes - 2 in
      let len = length-replicate {A = ℕ} count 0 in record {
        front = replicate count 0;
        rest = drop first bytes;
        whole = start_code_split bytes (drop first bytes) enough one_there;
        place = omega (arith, enough, h.1, len);
        within = All-nil (IsWithin (replicate count 0));
        passed = record { zeros = count; rest = []; text_is = sym (append-nil (replicate count 0)); rest_is = refl };
        so_far = λ more. past_zeros false (start_code ++ (drop first bytes ++ more)) a_code count ∙ ap (λ n. n + front_len false (start_code ++ (drop first bytes ++ more))) (sym len);
      }

pub walked-begin : (bytes : List ℕ) (first : Option ℕ) → IsFirstUnit bytes first → IsWalkedBy bytes [] first false
walked-begin bytes None h = (refl, refl)
walked-begin bytes (Some first) h = walked-first bytes first h

-- which is looked for where none was passed
pub walked-found : (bytes : List ℕ) (places : List (Range ℕ)) (next first : Option ℕ) (has_slice : Bool) → is_some next ≡ false
    → IsWalkedBy bytes places next has_slice → IsFirstUnit bytes first → IsWalkedBy bytes places first has_slice
walked-found bytes places None first has_slice none walked h = rw (walked.0, walked.1) (walked-begin bytes first h)
walked-found bytes places (Some next) first has_slice none walked h = absurd (false≢true (sym none))

pub walked-at : (bytes : List ℕ) (places : List (Range ℕ)) (next : Option ℕ) (has_slice : Bool) (at : ℕ) → next ≡ Some at
    → IsWalkedBy bytes places next has_slice → IsWalkedTo bytes places at has_slice
walked-at bytes places None has_slice at is walked = absurd (cc)
walked-at bytes places (Some next) has_slice at is walked = let same : next ≡ at = cc in rw same at walked

-- more bytes change nothing of it
pub walked-longer : (bytes more : List ℕ) (places : List (Range ℕ)) (next : Option ℕ) (has_slice : Bool)
    → IsWalkedBy bytes places next has_slice → IsWalkedBy (bytes ++ more) places next has_slice
walked-longer bytes more places None has_slice walked = walked
walked-longer bytes more places (Some next) has_slice walked = record {
  front = walked.front;
  rest = walked.rest ++ more;
  whole = ap (λ l. l ++ more) walked.whole ∙ append_assoc walked.front (start_code ++ walked.rest) more;
  place = walked.place;
  within = walked.within;
  passed = walked.passed;
  so_far = λ others. rw append_assoc (walked.so_far (more ++ others));
}

module _ (bytes : List ℕ) (places : List (Range ℕ)) (at : ℕ) (has_slice : Bool) (walked : IsWalkedTo bytes places at has_slice) where
  whole_is : bytes ≡ (walked.front ++ start_code) ++ walked.rest
  whole_is = walked.whole ∙ sym (append_assoc walked.front start_code walked.rest)

  before : length (walked.front ++ start_code) ≡ at
  before = omega (arith, walked.place, length-append walked.front start_code)

  -- what the next unit begins
  rest_is : drop at bytes ≡ walked.rest
  rest_is = ap (drop at) whole_is ∙ drop_at (walked.front ++ start_code) walked.rest at before

  length_is : length bytes ≡ at + length walked.rest
  length_is = omega (arith, ap length whole_is, length-append (walked.front ++ start_code) walked.rest, before)

  pub walked-within : at ≤ length bytes
  walked-within = omega (arith, length_is)

  pub walked-place : 3 ≤ at
  walked-place = omega (arith, walked.place)

  pub walked-code : FollowsStartCode bytes at
  walked-code = record {
    start = length walked.front;
    place = walked.place;
    code = ap (drop (length walked.front)) walked.whole ∙ drop_at walked.front (start_code ++ walked.rest) (length walked.front) refl ∙ ap (λ l. start_code ++ l) (sym rest_is);
  }

  -- the access unit ends before a boundary
  pub end-boundary : (is_over : Bool) → ((more : List ℕ) → (is_over ≡ true → more ≡ []) → IsSeen (drop at bytes) more)
      → (has_slice && begins_access_unit (drop at bytes)) ≡ true → (len : ℕ) → len + 3 ≡ at → IsEnd bytes is_over places len
  end-boundary is_over seen there len is =
      let size : length walked.front ≡ len = omega (arith, walked.place) in
      let front_is : take len bytes ≡ walked.front = ap (take len) walked.whole ∙ take_at walked.front (start_code ++ walked.rest) len size in record {
        within = omega (arith, length_is);
        found = λ more over.
            let none = ends_at_code has_slice walked.rest more (rw rest_is at (seen more over)) (rw rest_is at there) in
            ap (λ l. front_len false (l ++ more)) walked.whole ∙ ap (front_len false) (append_assoc walked.front (start_code ++ walked.rest) more)
            ∙ walked.so_far more ∙ omega (arith, none, size);
        known = rw front_is (known-all walked.front places walked.within walked.passed);
      }

  module _ (unit rest : List ℕ) (begins : BeginsWithUnit (start_code ++ drop at bytes) unit rest)
      (none : (has_slice && begins_access_unit (drop at bytes)) ≡ false) (ends : EndsZeros rest) where
    abbrev front_now : List ℕ
    front_now = walked.front ++ piece_of unit begins.zeros

    abbrev place_now : Range ℕ
    place_now = record { start = at; end = at + length unit }

    rest_begins : start_code ++ walked.rest ≡ piece_of unit begins.zeros ++ rest
    rest_begins = ap (λ l. start_code ++ l) (sym rest_is) ∙ begins.bytes_are ∙ piece_whole unit rest begins.zeros

    whole_now : bytes ≡ front_now ++ rest
    whole_now = walked.whole ∙ ap (λ l. walked.front ++ l) rest_begins ∙ sym (append_assoc walked.front (piece_of unit begins.zeros) rest)

    size_now : length front_now ≡ at + length unit + begins.zeros
    size_now = omega (arith, length-append walked.front (piece_of unit begins.zeros), length-piece unit begins.zeros, walked.place)

    within_now : All (IsWithin front_now) (places ++ place_now ∷ [])
    within_now =
        All-push (IsWithin front_now) places place_now
        (All-weaker (IsWithin walked.front) (IsWithin front_now) (λ place is. IsWithin-longer walked.front (piece_of unit begins.zeros) place is) places walked.within)
        (record { ordered = omega arith; within = omega (arith, size_now) })

    unit_there : slice_range front_now at (at + length unit) ≡ unit
    unit_there =
        ap (λ l. slice_range l at (at + length unit)) (sym (append_assoc walked.front start_code (unit ++ replicate begins.zeros 0)))
        ∙ middle (walked.front ++ start_code) unit (replicate begins.zeros 0) at (at + length unit) before refl

    units_now : units_at front_now (places ++ place_now ∷ []) ≡ units_at walked.front places ++ unit ∷ []
    units_now =
        map-append (λ (place : Range ℕ). slice_range front_now place.start place.end) places (place_now ∷ [])
        ∙ (rw (units_at-longer walked.front (piece_of unit begins.zeros) places walked.within, unit_there) refl)

    passed_now : HasRest front_now (units_at front_now (places ++ place_now ∷ []))
    passed_now = rw units_now (HasRest-push walked.front unit begins.zeros (units_at walked.front places) walked.passed begins.unit_is)

    -- whose boundary would be seen in what goes on after it
    no_boundary : (has_slice && begins_access_unit unit) ≡ false
    no_boundary =
        let after_is : drop at bytes ≡ unit ++ (replicate begins.zeros 0 ++ rest) = append_cancel_left start_code _ _ begins.bytes_are in
        let begins_is = ap begins_access_unit after_is ∙ same_begins (replicate begins.zeros 0 ++ rest) (FollowsUnit-zeros rest ends begins.zeros) unit begins.unit_is.filled in
        sym (ap (λ b. has_slice && b) begins_is) ∙ none

    -- and the access unit goes on past it
    past_unit : (more : List ℕ) → EndsZeros (rest ++ more)
        → front_len false (front_now ++ (rest ++ more)) ≡ length front_now + front_len (has_slice || is_slice unit) (rest ++ more)
    past_unit more ends_now =
        let piece = piece_of unit begins.zeros in
        let pieces : start_code ++ (walked.rest ++ more) ≡ piece ++ (rest ++ more) = ap (λ l. l ++ more) rest_begins ∙ append_assoc piece rest more in
        let whole : start_code ++ (walked.rest ++ more) ≡ start_code ++ (unit ++ (replicate begins.zeros 0 ++ (rest ++ more))) =
        pieces ∙ sym (piece_whole unit (rest ++ more) begins.zeros) in
        let goes = goes_on has_slice unit (rest ++ more) begins.zeros begins.unit_is ends_now no_boundary in
        ap (front_len false) (append_assoc walked.front piece (rest ++ more) ∙ ap (λ l. walked.front ++ l) (sym pieces))
        ∙ walked.so_far more ∙ ap (λ l. length walked.front + front_len has_slice l) whole
        ∙ omega (arith, goes, length-append walked.front piece)

  -- one more unit is passed
  pub walked-more : (unit : List ℕ) (next : ℕ) → IsFoundAt bytes at unit (Some next)
      → (has_slice && begins_access_unit (drop at bytes)) ≡ false
      → IsWalkedTo bytes (places ++ record { start = at; end = at + length unit } ∷ []) next (has_slice || is_slice unit)
  walked-more unit next found none =
      let rest = start_code ++ drop next bytes in
      let whole = whole_now unit rest found.begins none a_code in record {
        front = front_now unit rest found.begins none a_code;
        rest = drop next bytes;
        whole = whole;
        place = omega (
          arith,
          ap length whole,
          length-append (front_now unit rest found.begins none a_code) rest,
          length-drop next bytes,
          code_in_range bytes next found.follows.1,
        );
        within = within_now unit rest found.begins none a_code;
        passed = passed_now unit rest found.begins none a_code;
        so_far = λ more. past_unit unit rest found.begins none a_code more a_code;
      }

  pub step-on : (unit : List ℕ) (next : Option ℕ) (to : ℕ) → next ≡ Some to → IsFoundAt bytes at unit next
      → (has_slice && begins_access_unit (drop at bytes)) ≡ false
      → IsWalkedBy bytes (places ++ record { start = at; end = at + length unit } ∷ []) next (has_slice || is_slice unit)
      × IfSome next (λ next. at < next)
  step-on unit None to is found none = absurd (cc)
  step-on unit (Some next) to is found none = (walked-more unit next found none, found.follows.0)

  -- the last unit ends with the bytes, where they are all
  pub end-last : (unit : List ℕ) → IsFoundAt bytes at unit None → (has_slice && begins_access_unit (drop at bytes)) ≡ false
      → IsEnd bytes true (places ++ record { start = at; end = at + length unit } ∷ []) (length bytes)
  end-last unit found none =
      let front = front_now unit [] found.begins none the_end in
      let whole : bytes ≡ front = whole_now unit [] found.begins none the_end ∙ append-nil front in record {
        within = omega arith;
        found = λ more over.
            ap (λ l. front_len false (bytes ++ l)) (over refl) ∙ ap (front_len false) (append-nil bytes)
            ∙ ap (front_len false) (whole_now unit [] found.begins none the_end)
            ∙ past_unit unit [] found.begins none the_end [] the_end ∙ omega (arith, ap length whole);
        known = rw (take_all (length bytes) bytes (omega arith), whole)
            (known-all front (places ++ record { start = at; end = at + length unit } ∷ []) (within_now unit [] found.begins none the_end) (passed_now unit [] found.begins none the_end));
      }

-- each step leaves less
pub step-smaller : (bytes : List ℕ) (places : List (Range ℕ)) (old next : Option ℕ) (has_slice : Bool) (at : ℕ) → old ≡ Some at
    → IsWalkedBy bytes places old has_slice → IfSome next (λ next. at < next) → text_left bytes next < text_left bytes old
step-smaller bytes places old next has_slice at is walked after =
    rw is (less next after (walked-within bytes places at has_slice (walked-at bytes places old has_slice at is walked)))
  where
    less : (next : Option ℕ) → IfSome next (λ next. at < next) → at ≤ length bytes → text_left bytes next < length bytes + 1 - at
    less None after within = omega arith
    less (Some next) after within = omega (arith, after)

-- and another than that to the next unit is the last
pub step-last : (bytes : List ℕ) (is_over : Bool) (at : ℕ) (walk : Walk) (step : WalkStep) → step ≢ On → IsStep bytes is_over at walk step
    → IsWalkedOn bytes is_over walk step
step-last bytes is_over at walk On other h = absurd (other refl)
step-last bytes is_over at walk (Ends len) other h = h
step-last bytes is_over at walk Unseen other h = h
step-last bytes is_over at walk Lost other h = h

-- where the places are lost, the access unit ends where a search says
pub end-lost : (bytes : List ℕ) (is_over : Bool) (places : List (Range ℕ)) (found : Option ℕ) → places ≡ []
    → IfSome found (λ len. len ≤ length bytes)
    → IfSome found (λ len. (more : List ℕ) → (is_over ≡ true → more ≡ []) → front_len false (bytes ++ more) ≡ len)
    → IfSome found (IsEnd bytes is_over places)
end-lost bytes is_over places None none within is = tt
end-lost bytes is_over places (Some len) none within is = record { within = within; found = is; known = λ some. absurd (omega (arith, ap length none)) }

-- what is known of the front of some bytes is known of what is shown of them
pub known-shown : (bytes front rest : List ℕ) (places : List (Range ℕ)) (len : ℕ) → bytes ≡ front ++ rest → length front ≡ len
    → AreKnown (take len bytes) places → AreKnown front places
known-shown bytes front rest places len whole size known =
    let front_is : take len bytes ≡ front = ap (take len) whole ∙ take_at front rest len size in
    rw front_is at known
