-- How far a text is mended, step by step.
use Rattle.std.proofs.Common.{◌≡◌, ℕ, ◌+◌, ◌-◌, ◌≤◌, Bool, true, false, ◌||◌, List, [], ◌∷◌, ◌++◌, length, take, drop, replicate, Some, None, refl, ap, sym, ◌∙◌, append_assoc, cond, subst}
use Rattle.std.proofs.lemmas.List.{append-nil, length-take-le}
use Rattle.std.proofs.lemmas.Grind.{flat_map-append}
use Rattle.std.proofs.lemmas.List.Folds.{list_any-append}
use Rattle.std.specs.List.{flat_map, list_any}
use Rattle.std.specs.Prelude.{nat_lt}
use Rattle.annexb.specs.Faults.{zero_run}
use Rattle.stream_mending.specs.Segments.{Segment, cut_of, foreign, trimmed, segments_at, segments_of}
use Rattle.stream_mending.specs.Faults.{fault_of, is_sound, has_none}
use Rattle.stream_mending.specs.Portions.{Portion, units_of, joint_after, ended_by, goes_on_in, with_segment, portions_from, portions_of, fits, no_segment}
use Rattle.stream_mending.specs.Mended.{mended, told, front_text, told_front, told_bytes, told_segment, told_for, told_portion, told_size, portion_text, stays, first_place}
use Rattle.stream_mending.specs.OpenPortions.{IsOpen}
use Rattle.stream_mending.specs.Mending.{IsDone, IsEnded, IsMendedTo, IsMendedUpTo, segments_from}
use Rattle.stream_mending.specs.declared.joint.Joint.{Joint}
use Rattle.stream_mending.specs.declared.joint.Joint.TheVariants.{Joins}
use Rattle.stream_mending.specs.declared.why.Why.{Why}
use Rattle.stream_mending.specs.declared.why.Why.TheVariants.{NotNalUnit, TooLarge}
use Rattle.stream_mending.specs.declared.why.LeftOut.{LeftOut}
use Rattle.stream_mending.specs.declared.mender.Mender.{Mender}
use Rattle.stream_mending.specs.declared.mending.Mending.{Mending}
use Rattle.stream_mending.proofs.Portions.{told-push}

-- what is written and told of a text that is cut so
abbrev mended_as : List ℕ → List (List ℕ) → List ℕ
mended_as front rest = cond (list_any stays (portions_of (segments_at (length front) rest)))
    (front_text front ++ flat_map portion_text (portions_of (segments_at (length front) rest))) []

abbrev told_as : List ℕ → List (List ℕ) → List LeftOut
told_as front rest = told_front front rest ++ flat_map told_portion (portions_of (segments_at (length front) rest))

-- what comes behind what was there, after what was given away
pub said_more : {A : Type 0} (before old new more : List A) → new ≡ old ++ more → before ++ new ≡ (before ++ old) ++ more
said_more before old new more is = ap (λ l. before ++ l) is ∙ sym (append_assoc before old more)

-- one segment more in the access unit
module _ (text written : List ℕ) (said : List LeftOut) (done : List Portion) (portion : Portion) (segment : Segment) (old new : Mending)
    (so_far : IsDone text written said done portion old) (opened : IsOpen (with_segment portion segment) new.portion)
    (bytes : new.bytes.items ≡ old.bytes.items) (stay : new.stays ≡ old.stays) where
  done_more : new.left_out.items ≡ old.left_out.items ++ told_segment segment → IsDone text written said done (with_segment portion segment) new
  done_more tells =
      let before = told_front (cut_of text).front (cut_of text).rest ++ flat_map told_portion done in
      record {
        open_is = opened;
        bytes_are = ap (λ l. written ++ l) bytes ∙ so_far.bytes_are;
        told_are =
            said_more said old.left_out.items new.left_out.items (told_segment segment) tells
            ∙ ap (λ l. l ++ told_segment segment) so_far.told_are
            ∙ append_assoc before (flat_map told_segment portion.segments) (told_segment segment)
            ∙ ap (λ l. before ++ l) (sym (told-push portion segment));
        stays_is = stay ∙ so_far.stays_is;
        unwritten = λ none. so_far.unwritten (sym stay ∙ none);
      }

  pub done_left_out : (why : Why) → fault_of segment.unit ≡ Some why
      → new.left_out.items ≡ old.left_out.items ++ told_bytes segment.place (3 + length segment.unit) why
      → IsDone text written said done (with_segment portion segment) new
  done_left_out why fault tells =
      done_more (tells ∙ ap (λ f. old.left_out.items ++ told_for segment f) (sym fault))

  pub done_kept : fault_of segment.unit ≡ None → new.left_out.items ≡ old.left_out.items
      → IsDone text written said done (with_segment portion segment) new
  done_kept fault tells =
      done_more (tells ∙ sym (append-nil old.left_out.items) ∙ ap (λ f. old.left_out.items ++ told_for segment f) (sym fault))

-- what is left after a segment
pub step : (portion : Portion) (segment : Segment) (left : List Segment) (joint : Joint) → joint_after portion segment ≡ joint
    → portions_from portion (segment ∷ left)
    ≡ ended_by joint portion ++ portions_from (with_segment (goes_on_in joint portion) segment) left
step portion segment left _ e =
    ap (λ j. ended_by j portion ++ portions_from (with_segment (goes_on_in j portion) segment) left) e

pub mended_more : (text written : List ℕ) (said : List LeftOut) (left : List Segment) (segment : Segment) (old new : Mending) (joint : Joint)
    → (h : IsMendedTo text written said (segment ∷ left) old) → joint_after h.portion segment ≡ joint
    → IsDone text written said (h.done ++ ended_by joint h.portion) (with_segment (goes_on_in joint h.portion) segment) new
    → IsMendedTo text written said left new
mended_more text written said left segment old new joint h e so_far = record {
  done = h.done ++ ended_by joint h.portion;
  portion = with_segment (goes_on_in joint h.portion) segment;
  whole =
      h.whole ∙ ap (λ l. h.done ++ l) (step h.portion segment left joint e)
      ∙ sym (append_assoc h.done (ended_by joint h.portion) (portions_from (with_segment (goes_on_in joint h.portion) segment) left));
  so_far = so_far;
}

-- one that is left out joins
pub joins_unsound : (portion : Portion) (segment : Segment) → is_sound segment.unit ≡ false → joint_after portion segment ≡ Joins
joins_unsound portion segment unsound = rw unsound refl

pub unsound_fault : (unit : List ℕ) (why : Why) → fault_of unit ≡ Some why → is_sound unit ≡ false
unsound_fault unit why fault = ap has_none fault

pub mended_left_out : (text written : List ℕ) (said : List LeftOut) (left : List Segment) (segment : Segment) (old new : Mending)
    → (h : IsMendedTo text written said (segment ∷ left) old) → is_sound segment.unit ≡ false
    → IsDone text written said h.done (with_segment h.portion segment) new → IsMendedTo text written said left new
mended_left_out text written said left segment old new h unsound so_far = record {
  done = h.done;
  portion = with_segment h.portion segment;
  whole = h.whole ∙ ap (λ l. h.done ++ l) (step h.portion segment left Joins (joins_unsound h.portion segment unsound));
  so_far = so_far;
}

-- an access unit at its end
module _ (text written : List ℕ) (said : List LeftOut) (done : List Portion) (portion : Portion) (old new : Mending)
    (so_far : IsDone text written said done portion old) where
  ended : new.bytes.items ≡ old.bytes.items ++ portion_text portion
      → new.left_out.items ≡ old.left_out.items ++ told_size portion
      → new.stays ≡ (old.stays || stays portion) → IsEnded text written said (done ++ portion ∷ []) new
  ended bytes tells stay =
      let front = front_text (cut_of text).front in
      let before = told_front (cut_of text).front (cut_of text).rest in
      record {
        bytes_are =
            said_more written old.bytes.items new.bytes.items (portion_text portion) bytes
            ∙ ap (λ l. l ++ portion_text portion) so_far.bytes_are
            ∙ append_assoc front (flat_map portion_text done) (portion_text portion)
            ∙ ap (λ l. front ++ l) (sym (last portion_text (portion_text portion) refl));
        told_are =
            said_more said old.left_out.items new.left_out.items (told_size portion) tells
            ∙ ap (λ l. l ++ told_size portion) so_far.told_are
            ∙ append_assoc (before ++ flat_map told_portion done) (flat_map told_segment portion.segments) (told_size portion)
            ∙ append_assoc before (flat_map told_portion done) (told_portion portion)
            ∙ ap (λ l. before ++ l) (sym (last told_portion (told_portion portion) refl));
        stays_is =
            stay ∙ ap (λ b. b || stays portion) so_far.stays_is
            ∙ sym (list_any-append stays done (portion ∷ []) ∙ ap (λ b. list_any stays done || b) (or_nothing (stays portion)));
        unwritten = λ none. so_far.unwritten (neither old.stays (stays portion) (sym stay ∙ none));
      }
    where
      neither : (a b : Bool) → (a || b) ≡ false → a ≡ false
      neither true b none = none
      neither false b none = refl

      or_nothing : (b : Bool) → list_any (λ (x : Bool). x) (b ∷ []) ≡ b
      or_nothing true = refl
      or_nothing false = refl

      last : {A : Type 0} (f : Portion → List A) (l : List A) → l ≡ f portion → flat_map f (done ++ portion ∷ []) ≡ flat_map f done ++ l
      last f l e =
          flat_map-append f done (portion ∷ []) ∙ ap (λ l. flat_map f done ++ l) (append-nil (f portion) ∙ sym e)

  pub ended_fits : fits portion ≡ true → new.bytes.items ≡ old.bytes.items ++ old.portion.text.items → new.left_out.items ≡ old.left_out.items
      → new.stays ≡ (old.stays || nat_lt 0 (length (units_of portion))) → IsEnded text written said (done ++ portion ∷ []) new
  ended_fits fit bytes tells stay =
      ended
      (bytes ∙ ap (λ l. old.bytes.items ++ l) (so_far.open_is.text_is ∙ rw fit refl))
      (tells ∙ sym (append-nil old.left_out.items) ∙ rw fit refl)
      (stay ∙ rw fit refl)

  pub ended_large : fits portion ≡ false → new.bytes.items ≡ old.bytes.items ++ replicate old.portion.zeros 0
      → new.left_out.items ≡ old.left_out.items ++ told_bytes old.portion.place old.portion.bytes TooLarge
      → new.stays ≡ old.stays → IsEnded text written said (done ++ portion ∷ []) new
  ended_large fit bytes tells stay =
      ended
      (bytes ∙ ap (λ l. old.bytes.items ++ l) (so_far.open_is.zeros_are ∙ rw fit refl))
      (tells ∙ ap (λ l. old.left_out.items ++ l)
      (ap (λ n. told_bytes n old.portion.bytes TooLarge) so_far.open_is.place_is
      ∙ ap (λ n. told_bytes (first_place portion.segments) n TooLarge) so_far.open_is.bytes_are ∙ rw fit refl))
      (stay ∙ rw fit (or_false old.stays))
    where
      or_false : (b : Bool) → b ≡ (b || false)
      or_false true = refl
      or_false false = refl

-- the next one is begun
pub begun : (text written : List ℕ) (said : List LeftOut) (done : List Portion) (is_delimited : Bool) (old new : Mending)
    → IsEnded text written said done old
    → IsOpen (record { is_delimited = is_delimited; segments = [] }) new.portion
    → new.bytes ≡ old.bytes → new.left_out ≡ old.left_out → new.stays ≡ old.stays
    → IsDone text written said done (record { is_delimited = is_delimited; segments = [] }) new
begun text written said done is_delimited old new h opened bytes tells stay = record {
  open_is = opened;
  bytes_are = ap (λ v. written ++ v.items) bytes ∙ h.bytes_are;
  told_are = ap (λ v. said ++ v.items) tells ∙ h.told_are ∙ sym (append-nil _);
  stays_is = stay ∙ h.stays_is;
  unwritten = λ none. h.unwritten (sym stay ∙ none);
}

-- before the first segment
pub first_mended : (text bytes : List ℕ) (rest : List (List ℕ)) (front : List ℕ) (place foreign_len : ℕ) (new : Mending)
    → cut_of text ≡ record { front = front; rest = bytes ∷ rest }
    → place ≡ zero_run front → foreign_len ≡ length (foreign front)
    → IsOpen no_segment new.portion → new.bytes.items ≡ replicate (length front - foreign_len) 0
    → new.left_out.items ≡ told_bytes place foreign_len NotNalUnit → new.stays ≡ false
    → IsMendedTo text [] [] (segments_of text) new
first_mended text bytes rest front place foreign_len new cut at len opened written tells stay = record {
  done = [];
  portion = no_segment;
  whole = refl;
  so_far = record {
    open_is = opened;
    bytes_are =
        written ∙ ap (λ n. replicate (length front - n) 0) len ∙ ap (λ c. front_text c.front) (sym cut)
        ∙ sym (append-nil (front_text (cut_of text).front));
    told_are =
        tells ∙ ap (λ n. told_bytes n foreign_len NotNalUnit) at ∙ ap (λ n. told_bytes (zero_run front) n NotNalUnit) len
        ∙ ap (λ c. told_front c.front c.rest) (sym cut)
        ∙ sym (append-nil (told_front (cut_of text).front (cut_of text).rest))
        ∙ sym (append-nil (told_front (cut_of text).front (cut_of text).rest ++ []));
    stays_is = stay;
    unwritten = λ none. refl;
  };
}

-- the segments of a text from its first start code on
pub first_segments : (text front rest : List ℕ) → cut_of text ≡ record { front = front; rest = (cut_of rest).front ∷ (cut_of rest).rest }
    → segments_of text ≡ segments_from (length front) rest
first_segments text front rest cut = ap (λ c. segments_at (length c.front) c.rest) cut

-- the first piece is taken
pub first_left : (text written left rest front : List ℕ) (said : List LeftOut) (m : Mending)
    → cut_of left ≡ record { front = front; rest = (cut_of rest).front ∷ (cut_of rest).rest }
    → (text ≡ left) × (written ≡ []) × (said ≡ [])
    → ((bytes : List ℕ) (others : List (List ℕ)) → cut_of text ≡ record { front = front; rest = bytes ∷ others }
    → IsMendedTo text [] [] (segments_of text) m)
    → IsMendedTo text written said (segments_from (length front) rest) m
first_left text written left rest front said m cut (same, none, nothing) begins =
    let there : cut_of text ≡ record { front = front; rest = (cut_of rest).front ∷ (cut_of rest).rest } = ap cut_of same ∙ cut in
    let begun = begins (cut_of rest).front (cut_of rest).rest there in
    subst (λ (w : List ℕ). IsMendedTo text w said (segments_from (length front) rest) m) (sym none)
    (subst (λ (s : List LeftOut). IsMendedTo text [] s (segments_from (length front) rest) m) (sym nothing)
    (subst (λ (l : List Segment). IsMendedTo text [] [] l m) (first_segments text front rest there) begun))

-- nothing comes behind
pub none_behind : (text written left : List ℕ) (said : List LeftOut) (m : Mender) → IsMendedUpTo text written said left m
    → IsMendedUpTo text written said (left ++ []) m
none_behind text written left said m = subst (λ (l : List ℕ). IsMendedUpTo text written said l m) (sym (append-nil left))

pub none_came : (text written left : List ℕ) (said : List LeftOut) (m : Mender) → IsMendedUpTo text written said (left ++ []) m
    → IsMendedUpTo text written said left m
none_came text written left said m = subst (λ (l : List ℕ). IsMendedUpTo text written said l m) (append-nil left)

-- a text without start codes
module _ (text : List ℕ) (cut : cut_of text ≡ record { front = text; rest = [] }) where
  pub none_mended : [] ≡ mended text
  unfolding mended fits
  none_mended = ap (λ c. mended_as c.front c.rest) (sym cut)

  pub none_told : told_bytes 0 (length text) NotNalUnit ≡ told text
  unfolding told fits
  none_told = sym (append-nil (told_bytes 0 (length text) NotNalUnit)) ∙ ap (λ c. told_as c.front c.rest) (sym cut)

-- what was mended is given away
module _ (text written : List ℕ) (said : List LeftOut) (done : List Portion) (portion : Portion) (old new : Mending) (bytes : List ℕ)
    (so_far : IsDone text written said done portion old) (portion_is : new.portion ≡ old.portion) (stay : new.stays ≡ old.stays)
    (told_is : new.left_out.items ≡ []) where
  given : bytes ++ new.bytes.items ≡ old.bytes.items → (old.stays ≡ false → bytes ≡ [])
      → IsDone text (written ++ bytes) (said ++ old.left_out.items) done portion new
  given bytes_is none = record {
    open_is = subst (IsOpen portion) (sym portion_is) so_far.open_is;
    bytes_are = append_assoc written bytes new.bytes.items ∙ ap (λ l. written ++ l) bytes_is ∙ so_far.bytes_are;
    told_are = ap (λ l. (said ++ old.left_out.items) ++ l) told_is ∙ append-nil (said ++ old.left_out.items) ∙ so_far.told_are;
    stays_is = stay ∙ so_far.stays_is;
    unwritten = λ is_none.
        let before : old.stays ≡ false = sym stay ∙ is_none in
        ap (λ l. l ++ bytes) (so_far.unwritten before) ∙ none before;
  }

pub mended_given : (text written : List ℕ) (said : List LeftOut) (left : List Segment) (old new : Mending) (bytes : List ℕ)
    → IsMendedTo text written said left old → new.portion ≡ old.portion → new.stays ≡ old.stays → new.left_out.items ≡ []
    → bytes ++ new.bytes.items ≡ old.bytes.items → (old.stays ≡ false → bytes ≡ [])
    → IsMendedTo text (written ++ bytes) (said ++ old.left_out.items) left new
mended_given text written said left old new bytes h portion_is stay told_is bytes_is none = record {
  done = h.done;
  portion = h.portion;
  whole = h.whole;
  so_far = given text written said h.done h.portion old new bytes h.so_far portion_is stay told_is bytes_is none;
}

-- a text at its end
module _ (text written : List ℕ) (said : List LeftOut) (portions : List Portion) (whole : portions_of (segments_of text) ≡ portions)
    (m : Mending) (h : IsEnded text written said portions m) where
  mended_some : m.stays ≡ true → written ++ m.bytes.items ≡ mended text
  unfolding mended
  mended_some some =
      let any : list_any stays portions ≡ true = sym h.stays_is ∙ some in
      h.bytes_are ∙ rw (whole, any) refl

  mended_none : m.stays ≡ false → written ++ [] ≡ mended text
  unfolding mended
  mended_none none =
      let any : list_any stays portions ≡ false = sym h.stays_is ∙ none in
      ap (λ l. l ++ []) (h.unwritten none) ∙ rw (whole, any) refl

  pub told_all : said ++ m.left_out.items ≡ told text
  unfolding told
  told_all = h.told_are ∙ rw whole refl

  pub mended_cases : written ++ cond m.stays m.bytes.items [] ≡ mended text
  mended_cases = cases m.stays refl
    where
      cases : (b : Bool) → m.stays ≡ b → written ++ cond b m.bytes.items [] ≡ mended text
      cases true some = mended_some some
      cases false none = mended_none none

-- what is trimmed of what stands before the first start code
pub foreign_len : (front : List ℕ) (place count : ℕ) → place ≡ zero_run front → count ≤ length (drop place front)
    → take count (drop place front) ≡ trimmed (drop place front) → count ≡ length (foreign front)
foreign_len front place count at within cut =
    sym (length-take-le count (drop place front) within) ∙ ap length cut ∙ ap (λ n. length (trimmed (drop n front))) at
