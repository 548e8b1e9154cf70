-- The access units that stay are those of what is written.
use Rattle.std.proofs.Common.{◌≡◌, ℕ, ◌<◌, ◌≤◌, ⊎_elim, Bool, true, false, ◌&&◌, ◌||◌, leb, List, [], ◌∷◌, ◌++◌, length, Option, None, Some, arith, refl, ap, sym, subst, ◌∙◌, length-append, append_assoc}
use Rattle.std.proofs.lemmas.Bool.{false≢true, or_parts, lt-leb, cases_lt}
use Rattle.std.proofs.lemmas.List.{append-nil, take_at, take-append-le, get_or_at, get_or_append_left}
use Rattle.std.proofs.lemmas.List.Elements.{All-cons, All-nil, All-append, filter-append}
use Rattle.std.specs.List.{filter, list_any}
use Rattle.std.specs.Option.{option_or}
use Rattle.annexb.specs.NalUnit.{IsUnit, is_slice, nal_unit_type, begins_at_macroblock_zero}
use Rattle.annexb.specs.AccessUnits.{precedes_slices, begins_access_unit, is_boundary, IsWhole}
use Rattle.access_unit.specs.Refusals.{has_slice, mixes_idr, mixes_reference, header_rows, set_rows, order_rows, refusal_at, first_refusal, refusal_of}
use Rattle.access_unit.specs.declared.refused.Refused.{Refused}
use Rattle.stream_mending.specs.Segments.{Segment}
use Rattle.stream_mending.specs.Faults.{is_sound}
use Rattle.stream_mending.specs.Portions.{Portion, put, sound_units, units_of, slices_of, joint_of, with_segment, most_slices}
use Rattle.stream_mending.specs.declared.joint.Joint.TheVariants.{Joins}
use Rattle.stream_mending.proofs.Portions.{units-left_out, slices-left_out, units-kept, slices-kept}
use Rattle.stream_mending.proofs.Sound.{IsSound, sound_parts, DoesJoin, joins_parts}
use Rattle.stream_mending.proofs.Rebuilt.{AreUnitsKept}

-- a slice is among those that there are
pub any-slice : (units : List (List ℕ)) → list_any is_slice units ≡ has_slice (filter is_slice units)
any-slice [] = refl
any-slice (unit ∷ units) = cases (any-slice units) (is_slice unit) refl
  where
    cases : list_any is_slice units ≡ has_slice (filter is_slice units) → (b : Bool) → is_slice unit ≡ b
        → list_any is_slice (unit ∷ units) ≡ has_slice (filter is_slice (unit ∷ units))
    cases later true e = rw e refl
    cases later false e = rw e later

-- no refusal of a NAL unit that joins
module _ (before : List (List ℕ)) (unit : List ℕ) (sound : IsSound unit) (joins : DoesJoin (filter is_slice before) unit)
    (few : (is_slice unit && leb 256 (length (filter is_slice before))) ≡ false) where
  slices : List (List ℕ)
  slices = filter is_slice before

  both_false : (a b c : Bool) → (a && (b || c)) ≡ false → ((a && b) ≡ false) × ((a && c) ≡ false)
  both_false true b c h = or_parts b c h
  both_false false b c h = (refl, refl)

  other_order : (a b c : Bool) → (a && (b || c)) ≡ false → ((b && a) ≡ false) × ((c && a) ≡ false)
  other_order true true c h = absurd (false≢true (sym h))
  other_order true false true h = absurd (false≢true (sym h))
  other_order true false false h = (refl, refl)
  other_order false true true h = (refl, refl)
  other_order false true false h = (refl, refl)
  other_order false false true h = (refl, refl)
  other_order false false false h = (refl, refl)

  pub refusal_at-none : refusal_at before unit ≡ None
  unfolding refusal_at header_rows set_rows order_rows slices
  refusal_at-none =
      let mixed = both_false (is_slice unit) (mixes_idr slices unit) (mixes_reference slices unit) joins.same in
      let order = other_order (has_slice slices) (precedes_slices (nal_unit_type unit)) (begins_at_macroblock_zero unit) joins.inside in
      rw (sound.type_read, sound.bit, sound.sps, sound.pps, sound.switching, mixed.0, sound.intra, sound.reference, mixed.1, order.0, order.1, few) refl

-- nor of NAL units with one more
refusal-push : (before units : List (List ℕ)) (unit : List ℕ) → first_refusal before units ≡ None → refusal_at (before ++ units) unit ≡ None
    → first_refusal before (units ++ unit ∷ []) ≡ None
refusal-push before [] unit none here = here'
  where
    here' : option_or (refusal_at before unit) None ≡ None
    here' = let e : refusal_at before unit ≡ None = rw append-nil at here in rw e refl
refusal-push before (first ∷ units) unit none here =
    cases (λ e. refusal-push (before ++ first ∷ []) units unit (rw e at none) (rw append_assoc here)) (refusal_at before first) refl
  where
    cases : (refusal_at before first ≡ None → first_refusal (before ++ first ∷ []) (units ++ unit ∷ []) ≡ None)
        → (o : Option Refused) → refusal_at before first ≡ o → first_refusal before ((first ∷ units) ++ unit ∷ []) ≡ None
    cases later (Some refused) e = let bad : Some refused ≡ None = rw e at none in cc
    cases later None e = rw e (later e)

-- no boundary comes before a unit that joins
whole-push : (part : List (List ℕ)) (unit : List ℕ) → IsWhole part → is_boundary part unit ≡ false → IsWhole (part ++ unit ∷ [])
whole-push part unit whole none at below = ⊎_elim
    (λ inside. rw (take-append-le at part (unit ∷ []) (omega arith), get_or_append_left part (unit ∷ []) [] at inside) (whole at inside))
    (λ after. let last : length part ≡ at = omega (arith, length-append part (unit ∷ [])) in
    rw (take_at part (unit ∷ []) at last, get_or_at part unit [] [] at last) none)
    (cases_lt at (length part))

-- a NAL unit that stays is one
abbrev pub Kept : Segment → Type 0
Kept segment = is_sound segment.unit ≡ true → IsUnit segment.unit

-- what holds of an access unit so far
pub record IsGood (portion : Portion) : Type 0 where
  pub whole : IsWhole (units_of portion)
  pub fine : length (slices_of portion) ≤ most_slices → refusal_of (units_of portion) ≡ None
  pub kept : AreUnitsKept portion.segments

-- the slices of an access unit, a delimiter aside
pub slices-units : (portion : Portion) → filter is_slice (units_of portion) ≡ slices_of portion
slices-units portion =
    filter-append is_slice (put portion.is_delimited) (sound_units portion.segments) ∙ none portion.is_delimited
  where
    none : (b : Bool) → filter is_slice (put b) ++ slices_of portion ≡ slices_of portion
    none true = refl
    none false = refl

-- the NAL units with one more
pub units_push : (portion : Portion) (segment : Segment) → is_sound segment.unit ≡ true
    → units_of (with_segment portion segment) ≡ units_of portion ++ segment.unit ∷ []
units_push portion segment sound =
    ap (λ l. put portion.is_delimited ++ l) (units-kept portion segment sound)
    ∙ sym (append_assoc (put portion.is_delimited) (sound_units portion.segments) (segment.unit ∷ []))

module _ (portion : Portion) (segment : Segment) (good : IsGood portion) (unit_kept : is_sound segment.unit ≡ true → IsUnit segment.unit) where
  kept_more : AreUnitsKept (with_segment portion segment).segments
  kept_more = All-append Kept portion.segments (segment ∷ []) good.kept (All-cons Kept segment [] unit_kept (All-nil Kept))

  pub good_left_out : is_sound segment.unit ≡ false → IsGood (with_segment portion segment)
  good_left_out unsound =
      let units : units_of (with_segment portion segment) ≡ units_of portion =
      ap (λ l. put portion.is_delimited ++ l) (units-left_out portion segment unsound) in
      record {
        whole = subst IsWhole (sym units) good.whole;
        fine = λ few. ap refusal_of units ∙ good.fine (rw (slices-left_out portion segment unsound) at few);
        kept = kept_more;
      }

  pub good_kept : is_sound segment.unit ≡ true → joint_of (slices_of portion) segment.unit ≡ Joins → IsGood (with_segment portion segment)
  good_kept sound joint =
      let joins = joins_parts (slices_of portion) segment.unit joint in
      let units = units_push portion segment sound in
      let boundary : is_boundary (units_of portion) segment.unit ≡ false =
      ap (λ b. b && begins_access_unit segment.unit) (any-slice (units_of portion) ∙ ap has_slice (slices-units portion)) ∙ joins.inside in
      record {
        whole = subst IsWhole (sym units) (whole-push (units_of portion) segment.unit good.whole boundary);
        fine = λ few.
            let here = rw (slices-kept portion segment sound) at few in
            ap refusal_of units
            ∙ refusal-push [] (units_of portion) segment.unit
            (good.fine (omega (arith, here, length-append (slices_of portion) (filter is_slice (segment.unit ∷ [])))))
            (refusal_at-none (units_of portion) segment.unit (sound_parts segment.unit sound)
            (rw (slices-units portion) joins)
            (rw (slices-units portion) (few_slices (is_slice segment.unit) refl here)));
        kept = kept_more;
      }
    where
      few_slices : (b : Bool) → is_slice segment.unit ≡ b
          → length (slices_of portion ++ filter is_slice (segment.unit ∷ [])) ≤ most_slices
          → (is_slice segment.unit && leb 256 (length (slices_of portion))) ≡ false
      few_slices true e few =
          let here : length (slices_of portion ++ segment.unit ∷ []) ≤ 256 = rw e at few in
          rw e (not_leb (length (slices_of portion)) (omega (arith, here, length-append (slices_of portion) (segment.unit ∷ []))))
        where
          not_leb : (n : ℕ) → n < 256 → leb 256 n ≡ false
          not_leb n below = lt-leb 256 n below
      few_slices false e few = rw e refl
