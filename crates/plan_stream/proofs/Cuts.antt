-- The access units of a text, one after the other: what is left of it after some of them.
use Rattle.std.proofs.Common.{◌≡◌, ℕ, ◌+◌, ◌<◌, ⊎_elim, Bool, true, false, ◌&&◌, ◌||◌, List, [], ◌∷◌, ◌++◌, length, take, drop, replicate, take-add, arith, refl, ap, sym, ◌∙◌, length-append, append_assoc, append-nil}
use Rattle.std.proofs.lemmas.Bool.{cases_Bool}
use Rattle.std.proofs.lemmas.List.{take_at, drop_at, drop-drop, length-replicate}
use Rattle.std.proofs.lemmas.List.Folds.{list_any-append}
use Rattle.std.specs.List.{list_any}
use Rattle.annexb.specs.NalUnit.{is_slice, IsUnit}
use Rattle.annexb.specs.ByteStream.{start_code, AreUnits}
use Rattle.annexb.specs.AccessUnits.{begins_access_unit}
use Rattle.annexb.proofs.Tails.{IsTail-from_unit}
use Rattle.annexb.proofs.Clear.{FollowsUnit-zeros, EndsZeros, EndsZeros-units}
use Rattle.annexb.proofs.Cuts.{cut_from}
use Rattle.plan_stream.specs.Fronts.{front_len}
use Rattle.plan_stream.proofs.Lengths.{past_tail, past_zeros, same_slice, same_begins}

-- bytes of these units, cut at a place: units of the access unit that is open, and those of the next ones
pub record IsCutAt (bytes : List ℕ) (units open_part : List (List ℕ)) (at : ℕ) : Type 0 where
  pub part : List (List ℕ)
  pub more : List (List ℕ)
  pub front : AreUnits (take at bytes) part
  pub rest : AreUnits (drop at bytes) more
  pub units_are : units ≡ part ++ more
  pub parts_are : cut_from open_part units ≡ (open_part ++ part) ∷ cut_from [] more

-- past a piece
pub take_past : (piece rest : List ℕ) (at : ℕ) → take (length piece + at) (piece ++ rest) ≡ piece ++ take at rest
take_past piece rest at =
    take-add (length piece) at (piece ++ rest)
    ∙ (ap (λ (l : List ℕ). l ++ take at (drop (length piece) (piece ++ rest))) (take_at piece rest (length piece) refl)
    ∙ ap (λ (l : List ℕ). piece ++ take at l) (drop_at piece rest (length piece) refl))

pub drop_past : (piece rest : List ℕ) (at : ℕ) → drop (length piece + at) (piece ++ rest) ≡ drop at rest
drop_past piece rest at = sym (drop-drop at (length piece) (piece ++ rest)) ∙ ap (drop at) (drop_at piece rest (length piece) refl)

-- a unit with its start code and the zeros after it
abbrev pub piece_of : List ℕ → ℕ → List ℕ
piece_of unit zeros = start_code ++ (unit ++ replicate zeros 0)

pub piece_whole : (unit rest : List ℕ) (zeros : ℕ) → start_code ++ (unit ++ (replicate zeros 0 ++ rest)) ≡ piece_of unit zeros ++ rest
piece_whole unit rest zeros = ap (λ l. start_code ++ l) (sym (append_assoc unit (replicate zeros 0) rest))

pub length-piece : (unit : List ℕ) (zeros : ℕ) → length (piece_of unit zeros) ≡ 3 + (length unit + zeros)
length-piece unit zeros = omega (arith, length-append unit (replicate zeros 0), length-replicate {A = ℕ} zeros 0)

-- how far the text goes from a start code on: not at all, where a boundary stands there, or past its unit
module _ (has_slice : Bool) (unit rest : List ℕ) (zeros : ℕ) (is_unit : IsUnit unit) (ends : EndsZeros rest) where
  abbrev after_code : List ℕ
  after_code = unit ++ (replicate zeros 0 ++ rest)

  stops : (has_slice && begins_access_unit unit) ≡ true → front_len has_slice (start_code ++ (unit ++ (replicate zeros 0 ++ rest))) ≡ 0
  stops there =
      let begins = same_begins (replicate zeros 0 ++ rest) (FollowsUnit-zeros rest ends zeros) unit is_unit.filled in
      rw (begins, there) refl

  pub goes_on : (has_slice && begins_access_unit unit) ≡ false
      → front_len has_slice (start_code ++ (unit ++ (replicate zeros 0 ++ rest)))
      ≡ length (piece_of unit zeros) + front_len (has_slice || is_slice unit) rest
  goes_on none =
      let begins = same_begins (replicate zeros 0 ++ rest) (FollowsUnit-zeros rest ends zeros) unit is_unit.filled in
      let slice = same_slice (replicate zeros 0 ++ rest) (FollowsUnit-zeros rest ends zeros) unit is_unit.filled in
      let open_now = has_slice || is_slice unit in
      let past : front_len open_now after_code ≡ length unit + (zeros + front_len open_now rest) =
      past_tail open_now unit (replicate zeros 0 ++ rest) (IsTail-from_unit unit is_unit) ∙ ap (λ n. length unit + n) (past_zeros open_now rest ends zeros) in
      rw (begins, none, slice) (omega (arith, past, length-piece unit zeros))

-- the text of the open access unit ends at a boundary
pub cut_units_at : (bytes : List ℕ) (units open_part : List (List ℕ)) → AreUnits bytes units → 0 < length (open_part ++ units)
    → IsCutAt bytes units open_part (front_len (list_any is_slice open_part) bytes)
cut_units_at bytes [] [] are some = absurd (omega arith)
cut_units_at bytes [] (first ∷ others) are some = rw are (record {
  part = [];
  more = [];
  front = refl;
  rest = refl;
  units_are = refl;
  parts_are = ap (λ l. l ∷ []) (sym (append-nil (first ∷ others)));
})
cut_units_at bytes (unit ∷ units) open_part (rest, begins, more) some = ⊎_elim
    (λ boundary. rw begins.bytes_are (rw (stops (list_any is_slice open_part) unit rest begins.zeros begins.unit_is (EndsZeros-units rest units more) boundary) (record {
      part = [];
      more = unit ∷ units;
      front = refl;
      rest = (rest, record { zeros = begins.zeros; bytes_are = refl; unit_is = begins.unit_is }, more);
      units_are = refl;
      parts_are = rw (boundary, append-nil open_part) refl;
    })))
    (λ none.
    let open_now = open_part ++ unit ∷ [] in
    let later = cut_units_at rest units open_now more (omega (arith, length-append open_part (unit ∷ []), length-append (open_part ++ unit ∷ []) units)) in
    let flag : list_any is_slice open_now ≡ (list_any is_slice open_part || is_slice unit) = any_push open_part unit in
    let at = front_len (list_any is_slice open_now) rest in
    let piece = piece_of unit begins.zeros in
    let len : front_len (list_any is_slice open_part) bytes ≡ length piece + at =
    ap (front_len (list_any is_slice open_part)) begins.bytes_are
    ∙ goes_on (list_any is_slice open_part) unit rest begins.zeros begins.unit_is (EndsZeros-units rest units more) none
    ∙ ap (λ b. length piece + front_len b rest) (sym flag) in
    let whole : bytes ≡ piece ++ rest = begins.bytes_are ∙ piece_whole unit rest begins.zeros in
    let front_is : take (length piece + at) bytes ≡ start_code ++ (unit ++ (replicate begins.zeros 0 ++ take at rest)) =
    ap (take (length piece + at)) whole ∙ take_past piece rest at ∙ sym (piece_whole unit (take at rest) begins.zeros) in
    let rest_is : drop (length piece + at) bytes ≡ drop at rest = ap (drop (length piece + at)) whole ∙ drop_past piece rest at in
    rw len (record {
      part = unit ∷ later.part;
      more = later.more;
      front = (take at rest, record { zeros = begins.zeros; bytes_are = front_is; unit_is = begins.unit_is }, later.front);
      rest = rw rest_is later.rest;
      units_are = ap (λ l. unit ∷ l) later.units_are;
      parts_are = rw none (later.parts_are ∙ ap (λ l. l ∷ cut_from [] later.more) (append_assoc open_part (unit ∷ []) later.part));
    }))
    (cases_Bool (list_any is_slice open_part && begins_access_unit unit))
  where
    any_push : (part : List (List ℕ)) (unit : List ℕ) → list_any is_slice (part ++ unit ∷ []) ≡ (list_any is_slice part || is_slice unit)
    any_push part unit = list_any-append is_slice part (unit ∷ []) ∙ ap (λ b. list_any is_slice part || b) (or_nothing (is_slice unit))
      where
        or_nothing : (b : Bool) → (b || false) ≡ b
        or_nothing true = refl
        or_nothing false = refl
