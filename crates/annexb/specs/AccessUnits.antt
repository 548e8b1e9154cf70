-- Access units: where one ends and the next begins among NAL units (ITU-T H.264, 7.4.1.2.3).
use Rattle.std.specs.Prelude.{◌≡◌, ℕ, ◌<◌, Bool, ◌&&◌, ◌||◌, nat_le, List, [], ◌∷◌, length, map, take, slice_range, slice_index_or, EachIndex, IsTrue, IsFalse, ⊤}
use Rattle.std.specs.List.{flat_map, list_any}
use Rattle.std.specs.declared.ops.Range.{Range}
use Rattle.annexb.specs.NalUnit.{nal_unit_type, is_slice, begins_at_macroblock_zero}

-- types 6 to 9 and 14 to 18, whose units stand before the slices of their access unit
abbrev pub precedes_slices : ℕ → Bool
precedes_slices unit_type =
    (nat_le 6 unit_type && nat_le unit_type 9) || (nat_le 14 unit_type && nat_le unit_type 18)

-- a unit that belongs to the next access unit where a slice stands before it
abbrev pub begins_access_unit : List ℕ → Bool
begins_access_unit unit = precedes_slices (nal_unit_type unit) || begins_at_macroblock_zero unit

-- a boundary stands before the unit, where these are the units of the access unit so far
abbrev pub is_boundary : List (List ℕ) → List ℕ → Bool
is_boundary units unit = list_any is_slice units && begins_access_unit unit

-- no boundary stands before any of the units, after those before it
abbrev pub IsWhole : List (List ℕ) → Type 0
IsWhole units =
    EachIndex units (λ at. IsFalse (is_boundary (take at units) (slice_index_or units at [])))

-- a boundary stands between the units and the parts after them, if there are any
abbrev pub EndsBefore : List (List ℕ) → List (List (List ℕ)) → Type 0
EndsBefore units [] = ⊤
EndsBefore units ([] ∷ parts) = ⊥
EndsBefore units ((unit ∷ others) ∷ parts) = IsTrue (is_boundary units unit)

-- each part has a unit or more, none has a boundary within, and one stands between each two
abbrev pub AreAccessUnits : List (List (List ℕ)) → Type 0
AreAccessUnits [] = ⊤
AreAccessUnits (part ∷ parts) =
    (0 < length part) × IsWhole part × EndsBefore part parts × AreAccessUnits parts

-- the parts are the access units of the units
pub record IsCut (units : List (List ℕ)) (parts : List (List (List ℕ))) : Type 0 where
  pub units_are : flat_map (λ part. part) parts ≡ units
  pub parts_are : AreAccessUnits parts

-- the units at each of the ranges
abbrev pub parts_at : List (List ℕ) → List (Range ℕ) → List (List (List ℕ))
parts_at units ranges = map (λ range. slice_range units range.start range.end) ranges

-- the ranges follow one another from the first place up to the last, and none is empty
abbrev pub AreConsecutive : ℕ → List (Range ℕ) → ℕ → Type 0
AreConsecutive first [] last = first ≡ last
AreConsecutive first (range ∷ ranges) last =
    (range.start ≡ first) × (first < range.end) × AreConsecutive range.end ranges last
