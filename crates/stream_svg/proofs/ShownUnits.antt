-- The pictures of the second row, unit by unit.
use Rattle.std.proofs.Common.{◌≡◌, ℕ, suc, zero, ◌+◌, ◌<◌, Bool, true, false, cond, Option, Some, None, option_map, List, [], ◌∷◌, ◌++◌, length, take, get_or, refl, sym, ap, ◌∙◌, arith}
use Rattle.std.proofs.lemmas.List.{append-nil}
use Rattle.std.proofs.lemmas.List.Elements.{filter_map-append}
use Rattle.std.proofs.lemmas.List.Sums.{sum_by_more}
use Rattle.std.proofs.lemmas.Option.{slice_get_read}
use Rattle.std.specs.List.{filter_map, cons_option, range_with_len, count_by}
use mir.Val.{bool_byte}
use Rattle.stream_svg.specs.declared.unit.DrawnPicture.{DrawnPicture}
use Rattle.stream_svg.specs.declared.unit.UnitKind.{UnitKind}
use Rattle.stream_svg.specs.declared.unit.UnitKind.TheVariants as kinds
use Rattle.stream_svg.specs.declared.unit.DrawnUnit.{DrawnUnit}
use Rattle.stream_svg.specs.declared.output_row.OutputUnit.{OutputUnit}
use Rattle.stream_svg.specs.OutputRow.{begins_period, position_of, period_at, shown_at}

-- a unit that isn't valid has no position, and begins no period
pub position-without : (kind : UnitKind) → ((picture : DrawnPicture) → kind ≡ kinds.Picture picture → ⊥) → position_of kind ≡ None
position-without (kinds.Picture picture) not = absurd (not picture refl)
position-without (kinds.Fault fault) not = refl
position-without kinds.Empty not = refl

pub begins-without : (kind : UnitKind) → ((picture : DrawnPicture) → kind ≡ kinds.Picture picture → ⊥) → begins_period kind ≡ false
begins-without (kinds.Picture picture) not = absurd (not picture refl)
begins-without (kinds.Fault fault) not = refl
begins-without kinds.Empty not = refl

-- one number more
range_more : (first count last : ℕ) → first + count ≡ last → range_with_len first (count + 1) ≡ range_with_len first count ++ last ∷ []
range_more first zero last is = let same : first ≡ last = omega arith in ap (λ n. n ∷ []) same
range_more first (suc count) last is = let longer : suc count + 1 ≡ suc (count + 1) = omega arith in rw longer (ap (λ rest. first ∷ rest) (range_more (first + 1) count last (omega arith)))

-- what is shown of the units before a place, and how many of these units begin a period
abbrev pub shown_before : List DrawnUnit → ℕ → List OutputUnit
shown_before units place = filter_map (shown_at units) (range_with_len 0 place)

abbrev pub begun_before : List DrawnUnit → ℕ → ℕ
begun_before units place = count_by (λ unit. begins_period unit.kind) (take place units)

pub record AreShownBefore (units : List DrawnUnit) (place period : ℕ) (row : List OutputUnit) : Type 0 where
  pub periods : period ≡ begun_before units place
  pub row_is : row ≡ shown_before units place

module _ (units : List DrawnUnit) (place period : ℕ) (row : List OutputUnit) (before : AreShownBefore units place period row)
    (unit : DrawnUnit) (here : place < length units) (read : unit ≡ get_or units place unit) where
  begun_more : begun_before units (place + 1) ≡ period + cond (begins_period unit.kind) 1 0
  begun_more = sum_by_more (λ one. cond (begins_period one.kind) 1 0) units place unit here
      ∙ ap (λ one. begun_before units place + cond (begins_period one.kind) 1 0) (sym read)
      ∙ ap (λ count. count + cond (begins_period unit.kind) 1 0) (sym before.periods)

  shown_here : (position : Option ℕ) → position_of unit.kind ≡ position
      → shown_at units place ≡ option_map (λ one. record { position = one; place = place; period = period_at units place }) position
  shown_here position is = rw (slice_get_read units (length units) place unit refl here read, is) refl

  row_more : shown_before units (place + 1) ≡ row ++ cons_option (shown_at units place) []
  row_more = ap (filter_map (shown_at units)) (range_more 0 place place (omega arith))
      ∙ filter_map-append (shown_at units) (range_with_len 0 place) (place ∷ [])
      ∙ ap (λ found. found ++ cons_option (shown_at units place) []) (sym before.row_is)

  -- a unit that isn't valid isn't shown
  pub AreShownBefore-without : position_of unit.kind ≡ None → begins_period unit.kind ≡ false → AreShownBefore units (place + 1) period row
  AreShownBefore-without none begins_none = record {
    periods = sym (begun_more ∙ ap (λ begins. period + cond begins 1 0) begins_none ∙ omega arith);
    row_is = sym (row_more ∙ ap (λ shown. row ++ cons_option shown []) (shown_here None none) ∙ append-nil row);
  }

  -- a picture is, in the period that it may have begun
  pub AreShownBefore-picture : (position : ℕ) (now : ℕ) → position_of unit.kind ≡ Some position → now ≡ period + cond (begins_period unit.kind) 1 0
      → AreShownBefore units (place + 1) now (row ++ record { position = position; place = place; period = now } ∷ [])
  AreShownBefore-picture position now valid is =
      let begun : now ≡ begun_before units (place + 1) = is ∙ sym begun_more in
      record {
        periods = begun;
        row_is = sym (row_more ∙ ap (λ shown. row ++ cons_option shown []) (shown_here (Some position) valid)
            ∙ ap (λ count. row ++ record { position = position; place = place; period = count } ∷ []) (sym begun));
      }

pub bool_is : (begins : Bool) → bool_byte begins ≡ cond begins 1 0
bool_is true = refl
bool_is false = refl
