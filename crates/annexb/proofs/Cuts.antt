-- The one cut of units into access units, unit by unit.
use Rattle.std.proofs.Common.{◌≡◌, ℕ, ◌+◌, ◌-◌, ◌<◌, ◌≤◌, ⊎_elim, Bool, true, false, ◌&&◌, ◌||◌, cond, List, [], ◌∷◌, ◌++◌, length, drop, slice_range, get_or, All, arith, refl, ap, sym, subst, ◌∙◌, length-append, append_assoc}
use Rattle.std.proofs.lemmas.Bool.{false≢true, cases_Bool, cases_lt}
use Rattle.std.proofs.lemmas.List.{append-nil, drop_all, drop_more, map-append, length-take, length-drop, get_or_at, get_or_append_left, take_at, take-append-le}
use Rattle.std.proofs.lemmas.List.Edits.{between_more}
use Rattle.std.proofs.lemmas.List.Elements.{All-nil, All-cons}
use Rattle.std.proofs.lemmas.List.Folds.{list_any-append}
use Rattle.std.specs.List.{flat_map, list_any}
use Rattle.std.specs.declared.ops.Range.{Range}
use Rattle.annexb.specs.NalUnit.{is_slice}
use Rattle.annexb.specs.AccessUnits.{begins_access_unit, is_boundary, IsWhole, EndsBefore, AreAccessUnits, IsCut, parts_at, AreConsecutive}

-- the parts, where some units of the first are known
abbrev pub cut_from : List (List ℕ) → List (List ℕ) → List (List (List ℕ))
cut_from [] [] = []
cut_from (first ∷ part) [] = (first ∷ part) ∷ []
cut_from part (unit ∷ units) = cond (is_boundary part unit) (part ∷ cut_from (unit ∷ []) units) (cut_from (part ++ unit ∷ []) units)

-- the units of the parts
abbrev pub units_of : List (List (List ℕ)) → List (List ℕ)
units_of parts = flat_map (λ part. part) parts

cut_from-end : (part : List (List ℕ)) → 0 < length part → cut_from part [] ≡ part ∷ []
cut_from-end [] some = absurd (omega arith)
cut_from-end (first ∷ part) some = refl

-- the first part keeps its first unit
begins_with : (unit : List ℕ) (part units : List (List ℕ))
    → (others : List (List ℕ)) × (parts : List (List (List ℕ))) × (cut_from (unit ∷ part) units ≡ (unit ∷ others) ∷ parts)
begins_with unit part [] = (part, [], refl)
begins_with unit part (next ∷ units) = ⊎_elim
    (λ boundary. (part, cut_from (next ∷ []) units, rw boundary refl))
    (λ none. let later = begins_with unit (part ++ next ∷ []) units in (later.0, later.1, rw none later.2))
    (cases_Bool (is_boundary (unit ∷ part) next))

-- no boundary comes before a unit that has none before it
IsWhole-push : (part : List (List ℕ)) (unit : List ℕ) → IsWhole part → is_boundary part unit ≡ false → IsWhole (part ++ unit ∷ [])
IsWhole-push part unit whole none at below = ⊎_elim
    (λ inside. rw (take-append-le at part (unit ∷ []) (omega arith), get_or_append_left part (unit ∷ []) [] at inside) (whole at inside))
    (λ after. let last : length part ≡ at = omega (arith, length-append part (unit ∷ [])) in
    rw (take_at part (unit ∷ []) at last, get_or_at part unit [] [] at last) none)
    (cases_lt at (length part))

IsWhole-single : (unit : List ℕ) → IsWhole (unit ∷ [])
IsWhole-single unit = IsWhole-push [] unit (λ at below. absurd (omega arith)) refl

-- a boundary comes after some unit
some_before : (part : List (List ℕ)) (unit : List ℕ) → is_boundary part unit ≡ true → 0 < length part
some_before [] unit boundary = absurd (false≢true boundary)
some_before (first ∷ part) unit boundary = omega arith

-- the parts are a cut
AreAccessUnits-cut_from : (part units : List (List ℕ)) → IsWhole part → AreAccessUnits (cut_from part units)
AreAccessUnits-cut_from [] [] whole = tt
AreAccessUnits-cut_from (first ∷ part) [] whole = (omega arith, whole, tt, tt)
AreAccessUnits-cut_from part (unit ∷ units) whole = ⊎_elim
    (λ boundary. rw boundary (
      some_before part unit boundary,
      whole,
      rw (begins_with unit [] units).2 boundary,
      AreAccessUnits-cut_from (unit ∷ []) units (IsWhole-single unit),
    ))
    (λ none. rw none (AreAccessUnits-cut_from (part ++ unit ∷ []) units (IsWhole-push part unit whole none)))
    (cases_Bool (is_boundary part unit))

units_of-cut_from : (part units : List (List ℕ)) → units_of (cut_from part units) ≡ part ++ units
units_of-cut_from [] [] = refl
units_of-cut_from (first ∷ part) [] = refl
units_of-cut_from part (unit ∷ units) = ⊎_elim
    (λ boundary. rw boundary (ap (λ l. part ++ l) (units_of-cut_from (unit ∷ []) units)))
    (λ none. rw none (units_of-cut_from (part ++ unit ∷ []) units ∙ append_assoc part (unit ∷ []) units))
    (cases_Bool (is_boundary part unit))

pub IsCut-cut_from : (units : List (List ℕ)) → IsCut units (cut_from [] units)
IsCut-cut_from units = record { units_are = units_of-cut_from [] units; parts_are = AreAccessUnits-cut_from [] units (λ at below. absurd (omega arith)) }

-- and each cut is these parts
cut_from-part : (part more : List (List ℕ)) (parts : List (List (List ℕ))) → 0 < length (part ++ more)
    → IsWhole (part ++ more) → EndsBefore (part ++ more) parts → cut_from [] (units_of parts) ≡ parts
    → cut_from part (more ++ units_of parts) ≡ (part ++ more) ∷ parts
cut_from-part part [] [] some whole ends rest = rw append-nil (cut_from-end part (rw append-nil at some))
cut_from-part part [] ([] ∷ parts) some whole ends rest = elim ends [ ]
cut_from-part part [] ((unit ∷ others) ∷ parts) some whole ends rest =
    let boundary = rw append-nil at ends in
    rw (append-nil, boundary) (ap (λ l. part ∷ l) rest)
cut_from-part part (unit ∷ more) parts some whole ends rest =
    let here = whole (length part) (omega (arith, length-append part (unit ∷ more))) in
    let none = rw (take_at part (unit ∷ more) (length part) refl, get_or_at part unit more [] (length part) refl) at here in
    let same = sym (append_assoc part (unit ∷ []) more) in
    rw none (rw (← same) at (cut_from-part (part ++ unit ∷ []) more parts (rw same at some) (subst IsWhole same whole) (subst (λ l. EndsBefore l parts) same ends) rest))

cut_from-parts : (parts : List (List (List ℕ))) → AreAccessUnits parts → cut_from [] (units_of parts) ≡ parts
cut_from-parts [] h = refl
cut_from-parts (part ∷ parts) (some, whole, ends, rest) = cut_from-part [] part parts some whole ends (cut_from-parts parts rest)

pub same_cut : (units : List (List ℕ)) (parts : List (List (List ℕ))) → IsCut units parts → cut_from [] units ≡ parts
same_cut units parts h = ap (cut_from []) (sym h.units_are) ∙ cut_from-parts parts h.parts_are

-- how far the units are cut: the ranges so far, and a part that is still open
pub record IsCutTo (units : List (List ℕ)) (at start : ℕ) (has_slice : Bool) (ranges : List (Range ℕ)) : Type 0 where
  pub ordered : start ≤ at
  pub cut : parts_at units ranges ++ cut_from (slice_range units start at) (drop at units) ≡ cut_from [] units
  pub slices : has_slice ≡ list_any is_slice (slice_range units start at)
  pub consecutive : AreConsecutive 0 ranges start

-- one range more
AreConsecutive-push : (first middle last : ℕ) (ranges : List (Range ℕ)) → AreConsecutive first ranges middle
    → middle < last → AreConsecutive first (ranges ++ record { start = middle; end = last } ∷ []) last
AreConsecutive-push first middle last [] h below = (sym h, omega arith, refl)
AreConsecutive-push first middle last (range ∷ ranges) h below = (h.0, h.1, AreConsecutive-push range.end middle last ranges h.2 below)

-- the ranges lie between the first place and the last
pub AreConsecutive-in_range : (first last : ℕ) (ranges : List (Range ℕ)) → AreConsecutive first ranges last
    → (first ≤ last) × All (λ range. (range.start < range.end) × (range.end ≤ last)) ranges
AreConsecutive-in_range first last [] h = (omega arith, All-nil (λ range. (range.start < range.end) × (range.end ≤ last)))
AreConsecutive-in_range first last (range ∷ ranges) h =
    let rest = AreConsecutive-in_range range.end last ranges h.2 in (
      omega (arith, h.1, rest.0),
      All-cons (λ range. (range.start < range.end) × (range.end ≤ last)) range ranges (omega (arith, h.0, h.1), rest.0) rest.1,
    )

-- the ranges of the one cut
pub record IsCutBy (units : List (List ℕ)) (ranges : List (Range ℕ)) : Type 0 where
  pub parts : parts_at units ranges ≡ cut_from [] units
  pub consecutive : AreConsecutive 0 ranges (length units)

module _ (units : List (List ℕ)) (ranges : List (Range ℕ)) (cut : IsCutBy units ranges) where
  pub IsCut-from_ranges : IsCut units (parts_at units ranges)
  IsCut-from_ranges = rw cut.parts (IsCut-cut_from units)

  pub parts_at-only : (parts : List (List (List ℕ))) → IsCut units parts → parts_at units ranges ≡ parts
  parts_at-only parts other = cut.parts ∙ same_cut units parts other

  pub ranges_in_range : All (λ range. (range.start < range.end) × (range.end ≤ length units)) ranges
  ranges_in_range = (AreConsecutive-in_range 0 (length units) ranges cut.consecutive).1

-- from a place up to it stands nothing
slice_range-none : (units : List (List ℕ)) (at : ℕ) → slice_range units at at ≡ []
slice_range-none units at = let zero_long : at - at ≡ 0 = omega arith in rw zero_long refl

slice_range-single : (units : List (List ℕ)) (at : ℕ) → at < length units → slice_range units at (at + 1) ≡ get_or units at [] ∷ []
slice_range-single units at here = between_more units at at [] (omega arith) here ∙ ap (λ l. l ++ get_or units at [] ∷ []) (slice_range-none units at)

list_any-single : (unit : List ℕ) → list_any is_slice (unit ∷ []) ≡ is_slice unit
list_any-single unit = or_nothing (is_slice unit)
  where
    or_nothing : (b : Bool) → (b || false) ≡ b
    or_nothing true = refl
    or_nothing false = refl

module _ (units : List (List ℕ)) (at start : ℕ) (has_slice : Bool) (ranges : List (Range ℕ)) (cut : IsCutTo units at start has_slice ranges) where
  -- the part that is still open
  abbrev open_part : List (List ℕ)
  open_part = slice_range units start at

  parts_more : parts_at units (ranges ++ record { start = start; end = at } ∷ []) ≡ parts_at units ranges ++ open_part ∷ []
  parts_more = map-append (λ (range : Range ℕ). slice_range units range.start range.end) ranges (record { start = start; end = at } ∷ [])

  -- after the last unit it is the last part, if it has a unit
  pub IsCutBy-end : start < at → at ≡ length units → IsCutBy units (ranges ++ record { start = start; end = length units } ∷ [])
  IsCutBy-end some end = rw (← end) (ended some end)
    where
      ended : start < at → at ≡ length units → IsCutBy units (ranges ++ record { start = start; end = at } ∷ [])
      ended some end =
          let filled : 0 < length open_part = omega (arith, length-take (at - start) (drop start units), length-drop start units) in record {
            parts = parts_more ∙ ap (λ l. parts_at units ranges ++ l) (sym (ap (cut_from open_part) (drop_all at units (omega arith)) ∙ cut_from-end open_part filled)) ∙ cut.cut;
            consecutive = rw (← end) (AreConsecutive-push 0 start at ranges cut.consecutive some);
          }

  pub IsCutBy-none : start ≡ at → at ≡ length units → IsCutBy units ranges
  IsCutBy-none none end =
      let nothing : open_part ≡ [] = rw none (slice_range-none units at) in
      record {
        parts = sym (append-nil (parts_at units ranges)) ∙ ap (λ l. parts_at units ranges ++ l) (sym (rw nothing (rw (drop_all at units (omega arith)) refl))) ∙ cut.cut;
        consecutive = rw (← (none ∙ end)) cut.consecutive;
      }

  module _ (here : at < length units) where
    abbrev unit : List ℕ
    unit = get_or units at []

    -- a unit more of the open part
    pub IsCutTo-kept : (has_slice && begins_access_unit (get_or units at [])) ≡ false
        → IsCutTo units (at + 1) start (has_slice || is_slice (get_or units at [])) ranges
    IsCutTo-kept none =
        let no_boundary : is_boundary open_part unit ≡ false = rw cut.slices at none in
        let goes_on : cut_from open_part (unit ∷ drop (at + 1) units) ≡ cut_from (open_part ++ unit ∷ []) (drop (at + 1) units) = rw no_boundary refl in
        let longer = between_more units start at [] cut.ordered here in
        record {
          ordered = omega (arith, cut.ordered);
          cut = ap (λ l. parts_at units ranges ++ l) (ap (λ l. cut_from l (drop (at + 1) units)) longer ∙ sym goes_on ∙ ap (cut_from open_part) (sym (drop_more units at [] here))) ∙ cut.cut;
          slices = ap (λ b. b || is_slice unit) cut.slices ∙ ap (λ b. list_any is_slice open_part || b) (sym (list_any-single unit))
              ∙ sym (list_any-append is_slice open_part (unit ∷ [])) ∙ ap (list_any is_slice) (sym longer);
          consecutive = cut.consecutive;
        }

    -- a part more, and a unit of the next one
    pub IsCutTo-cut : (has_slice && begins_access_unit (get_or units at [])) ≡ true
        → IsCutTo units (at + 1) at (is_slice (get_or units at [])) (ranges ++ record { start = start; end = at } ∷ [])
    IsCutTo-cut there =
        let boundary : is_boundary open_part unit ≡ true = rw cut.slices at there in
        let ends : cut_from open_part (unit ∷ drop (at + 1) units) ≡ open_part ∷ cut_from (unit ∷ []) (drop (at + 1) units) = rw boundary refl in
        let next = slice_range-single units at here in
        let filled = some_before open_part unit boundary in
        record {
          ordered = omega arith;
          cut = ap (λ l. l ++ cut_from (slice_range units at (at + 1)) (drop (at + 1) units)) parts_more
              ∙ append_assoc (parts_at units ranges) (open_part ∷ []) (cut_from (slice_range units at (at + 1)) (drop (at + 1) units))
              ∙ ap (λ l. parts_at units ranges ++ open_part ∷ cut_from l (drop (at + 1) units)) next
              ∙ ap (λ l. parts_at units ranges ++ l) (sym ends ∙ ap (cut_from open_part) (sym (drop_more units at [] here))) ∙ cut.cut;
          slices = sym (ap (list_any is_slice) next ∙ list_any-single unit);
          consecutive = AreConsecutive-push 0 start at ranges cut.consecutive (omega (arith, filled, length-take (at - start) (drop start units)));
        }
