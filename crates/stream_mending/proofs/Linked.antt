-- The access units of segments, one after the other, and what stays of them.
use Rattle.std.proofs.Common.{◌≡◌, ℕ, zero, suc, ◌<◌, Bool, true, false, ◌&&◌, cond, List, [], ◌∷◌, ◌++◌, length, map, take, get_or, All, None, arith, refl, ap, sym, ◌∙◌}
use Rattle.std.proofs.lemmas.Bool.{false≢true, and_parts}
use Rattle.std.proofs.lemmas.List.Elements.{All-head, All-tail, All-cons, All-nil}
use Rattle.std.specs.List.{filter, list_any}
use Rattle.annexb.specs.NalUnit.{IsUnit, is_slice}
use Rattle.annexb.specs.AccessUnits.{begins_access_unit, is_boundary, EndsBefore, AreAccessUnits}
use Rattle.access_unit.specs.Refusals.{has_slice, refusal_of, refusal_at, header_rows, set_rows, order_rows}
use Rattle.stream_mending.specs.Segments.{Segment}
use Rattle.stream_mending.specs.Faults.{is_sound}
use Rattle.stream_mending.specs.Portions.{Portion, put, delimiter, units_of, slices_of, is_of_other, joint_of, joint_after, ended_by, goes_on_in, with_segment, portions_from, fits}
use Rattle.stream_mending.specs.declared.joint.Joint.{Joint}
use Rattle.stream_mending.specs.declared.joint.Joint.TheVariants.{Joins, Begins, NeedsDelimiter}
use Rattle.stream_mending.proofs.Sequences.{allowed_at}
use Rattle.stream_mending.proofs.Sound.{of_none, joins_none}
use Rattle.stream_mending.proofs.Rebuilt.{AreUnitsKept}
use Rattle.stream_mending.proofs.Portions.{units-left_out}
use Rattle.stream_mending.proofs.Steps.{step}
use Rattle.stream_mending.proofs.Units.{IsGood, Kept, good_left_out, good_kept, units_push, any-slice, slices-units}

-- it begins with a NAL unit that begins an access unit
pub record DoesStart (portion : Portion) : Type 0 where
  pub unit : List ℕ
  pub others : List (List ℕ)
  pub units_are : units_of portion ≡ unit ∷ others
  pub begins : begins_access_unit unit ≡ true

-- between each two a boundary stands
abbrev pub AreLinked : Portion → List Portion → Type 0
AreLinked portion [] = Unit {0}
AreLinked portion (next ∷ portions) = (list_any is_slice (units_of portion) ≡ true) × DoesStart next × AreLinked next portions

-- the access units of segments, after one so far
pub record Portions (portion : Portion) (segments : List Segment) : Type 0 where
  pub first : Portion
  pub others : List Portion
  pub are : portions_from portion segments ≡ first ∷ others
  pub good : All IsGood (first ∷ others)
  pub linked : AreLinked first others
  pub starts : DoesStart portion → DoesStart first

-- a delimiter is a NAL unit
pub IsUnit-delimiter : IsUnit delimiter
IsUnit-delimiter = record { filled = omega arith; ends = λ e. omega (arith, e); allowed = allowed_at delimiter refl }

delimiter_sound : refusal_of (delimiter ∷ []) ≡ None
unfolding refusal_at header_rows set_rows order_rows
delimiter_sound = refl

-- where an access unit begins
pub good_none : (is_delimited : Bool) → IsGood (record { is_delimited = is_delimited; segments = [] })
good_none true = record {
  whole = single;
  fine = λ few. delimiter_sound;
  kept = All-nil Kept;
}
  where
    single : (at : ℕ) → at < length (delimiter ∷ []) → is_boundary (take at (delimiter ∷ [])) (get_or (delimiter ∷ []) at []) ≡ false
    single zero below = refl
    single (suc at) below = absurd (omega arith)
good_none false = record { whole = λ at below. absurd (omega arith); fine = λ few. refl; kept = All-nil Kept }

-- one of another picture has a slice before it
other_has : (slices : List (List ℕ)) (unit : List ℕ) → is_of_other slices unit ≡ true → has_slice slices ≡ true
other_has [] unit h = absurd (false≢true (sym (of_none unit) ∙ h))
other_has (slice ∷ slices) unit h = refl

-- a slice stands before one that begins the next access unit
begins_has : (slices : List (List ℕ)) (unit : List ℕ) → joint_of slices unit ≡ Begins
    → (has_slice slices ≡ true) × (begins_access_unit unit ≡ true)
unfolding joint_of
begins_has slices unit h = first (has_slice slices && begins_access_unit unit) refl
  where
    second : (b : Bool) → cond b NeedsDelimiter Joins ≡ Begins → ⊥
    second true e = cc
    second false e = cc

    first : (b : Bool) → (has_slice slices && begins_access_unit unit) ≡ b → (has_slice slices ≡ true) × (begins_access_unit unit ≡ true)
    first true e = and_parts (has_slice slices) (begins_access_unit unit) e
    first false e = absurd (second (is_of_other slices unit) (rw e at h))

needs_has : (slices : List (List ℕ)) (unit : List ℕ) → joint_of slices unit ≡ NeedsDelimiter → has_slice slices ≡ true
unfolding joint_of
needs_has slices unit h = first (has_slice slices && begins_access_unit unit) refl
  where
    second : (b : Bool) → is_of_other slices unit ≡ b → cond b NeedsDelimiter Joins ≡ NeedsDelimiter → has_slice slices ≡ true
    second true e h = other_has slices unit e
    second false e h = cc

    first : (b : Bool) → (has_slice slices && begins_access_unit unit) ≡ b → has_slice slices ≡ true
    first true e = (and_parts (has_slice slices) (begins_access_unit unit) e).0
    first false e = second (is_of_other slices unit) refl (rw e at h)

has_any : (portion : Portion) → has_slice (slices_of portion) ≡ true → list_any is_slice (units_of portion) ≡ true
has_any portion h = any-slice (units_of portion) ∙ ap has_slice (slices-units portion) ∙ h

-- it still begins so with one more
starts_more : (portion : Portion) (segment : Segment) → DoesStart portion → DoesStart (with_segment portion segment)
starts_more portion segment h = cases (is_sound segment.unit) refl
  where
    cases : (b : Bool) → is_sound segment.unit ≡ b → DoesStart (with_segment portion segment)
    cases true sound = record {
      unit = h.unit;
      others = h.others ++ segment.unit ∷ [];
      units_are = units_push portion segment sound ∙ ap (λ l. l ++ segment.unit ∷ []) h.units_are;
      begins = h.begins;
    }
    cases false unsound = record {
      unit = h.unit;
      others = h.others;
      units_are = ap (λ l. put portion.is_delimited ++ l) (units-left_out portion segment unsound) ∙ h.units_are;
      begins = h.begins;
    }

-- the access units of segments are good, and linked
pub portions_good : (segments : List Segment) (portion : Portion) → IsGood portion → AreUnitsKept segments → Portions portion segments
portions_good [] portion good kept = record {
  first = portion;
  others = [];
  are = refl;
  good = All-cons IsGood portion [] good (All-nil IsGood);
  linked = tt;
  starts = λ starts. starts;
}
portions_good (segment ∷ segments) portion good kept =
    by_sound (λ next more. portions_good segments next more (All-tail Kept segment segments kept)) (is_sound segment.unit) refl
  where
    here : is_sound segment.unit ≡ true → IsUnit segment.unit
    here = All-head Kept segment segments kept

    Later : Type 0
    Later = (next : Portion) → IsGood next → Portions next segments

    joined_on : Later → joint_after portion segment ≡ Joins → IsGood (with_segment portion segment) → Portions portion (segment ∷ segments)
    joined_on go joins more =
        let later = go (with_segment portion segment) more in
        record {
          first = later.first;
          others = later.others;
          are = step portion segment segments Joins joins ∙ later.are;
          good = later.good;
          linked = later.linked;
          starts = λ starts. later.starts (starts_more portion segment starts);
        }

    begun_by : Later → (joint : Joint) (is_delimited : Bool) → is_sound segment.unit ≡ true → joint_after portion segment ≡ joint
        → ended_by joint portion ≡ portion ∷ [] → goes_on_in joint portion ≡ record { is_delimited = is_delimited; segments = [] }
        → has_slice (slices_of portion) ≡ true
        → DoesStart (with_segment (record { is_delimited = is_delimited; segments = [] }) segment)
        → Portions portion (segment ∷ segments)
    begun_by go joint is_delimited sound is ended begins has starts =
        let none : Portion = record { is_delimited = is_delimited; segments = [] } in
        let later = go (with_segment none segment) (good_kept none segment (good_none is_delimited) here sound (joins_none segment.unit)) in
        record {
          first = portion;
          others = later.first ∷ later.others;
          are =
              step portion segment segments joint is
              ∙ ap (λ l. l ++ portions_from (with_segment (goes_on_in joint portion) segment) segments) ended
              ∙ ap (λ p. portion ∷ portions_from (with_segment p segment) segments) begins
              ∙ ap (λ l. portion ∷ l) later.are;
          good = All-cons IsGood portion (later.first ∷ later.others) good later.good;
          linked = (has_any portion has, later.starts starts, later.linked);
          starts = λ starts. starts;
        }

    by_joint : Later → (joint : Joint) → joint_of (slices_of portion) segment.unit ≡ joint → is_sound segment.unit ≡ true → Portions portion (segment ∷ segments)
    by_joint go Joins joins sound = joined_on go (rw sound joins) (good_kept portion segment good here sound joins)
    by_joint go Begins is sound =
        let has = begins_has (slices_of portion) segment.unit is in
        begun_by go Begins false sound (rw sound is) refl refl has.0
        (record { unit = segment.unit; others = []; units_are = rw sound refl; begins = has.1 })
    by_joint go NeedsDelimiter is sound =
        begun_by go NeedsDelimiter true sound (rw sound is) refl refl (needs_has (slices_of portion) segment.unit is)
        (record { unit = delimiter; others = segment.unit ∷ []; units_are = rw sound refl; begins = refl })

    by_sound : Later → (b : Bool) → is_sound segment.unit ≡ b → Portions portion (segment ∷ segments)
    by_sound go true sound = by_joint go (joint_of (slices_of portion) segment.unit) refl sound
    by_sound go false unsound =
        joined_on go (rw unsound refl) (good_left_out portion segment good here unsound)

-- the NAL units of those that stay
abbrev pub parts_of : List Portion → List (List (List ℕ))
parts_of portions = map units_of (filter fits portions)

ends_one : (units : List (List ℕ)) (portion : Portion) (others : List Portion) → list_any is_slice units ≡ true → DoesStart portion
    → EndsBefore units (parts_of others) → (b : Bool) → fits portion ≡ b → EndsBefore units (parts_of (portion ∷ others))
ends_one units portion others has starts rest true fit = rw (fit, starts.units_are, has) starts.begins
ends_one units portion others has starts rest false fit = rw fit rest

-- a boundary stands before those after one with a slice
ends_before : (units : List (List ℕ)) (portion : Portion) (others : List Portion) → list_any is_slice units ≡ true → DoesStart portion
    → AreLinked portion others → EndsBefore units (parts_of (portion ∷ others))
ends_before units portion [] has starts linked = ends_one units portion [] has starts tt (fits portion) refl
ends_before units portion (next ∷ more) has starts linked =
    ends_one units portion (next ∷ more) has starts (ends_before units next more has linked.1 linked.2) (fits portion) refl

filled : (units : List (List ℕ)) → list_any is_slice units ≡ true → 0 < length units
filled [] h = absurd (false≢true h)
filled (unit ∷ units) h = omega arith

-- one that stays, before others that do
parts_one : (portion : Portion) (others : List Portion) → IsGood portion → (fits portion ≡ true → 0 < length (units_of portion))
    → EndsBefore (units_of portion) (parts_of others) → AreAccessUnits (parts_of others) → (b : Bool) → fits portion ≡ b
    → AreAccessUnits (parts_of (portion ∷ others))
parts_one portion others good some ends later true fit = rw fit (some fit, good.whole, ends, later)
parts_one portion others good some ends later false fit = rw fit later

-- those that stay are access units
pub parts_are : (portion : Portion) (others : List Portion) → All IsGood (portion ∷ others) → AreLinked portion others
    → (others ≡ [] → fits portion ≡ true → 0 < length (units_of portion)) → AreAccessUnits (parts_of (portion ∷ others))
parts_are portion [] good linked some =
    parts_one portion [] (All-head IsGood portion [] good) (some refl) tt tt (fits portion) refl
parts_are portion (next ∷ more) good linked some =
    parts_one portion (next ∷ more) (All-head IsGood portion (next ∷ more) good) (λ fit. filled (units_of portion) linked.0)
    (ends_before (units_of portion) next more linked.0 linked.1 linked.2)
    (parts_are next more (All-tail IsGood portion (next ∷ more) good) linked.2
    (λ none fit. omega (arith, ap length linked.1.units_are))) (fits portion) refl
