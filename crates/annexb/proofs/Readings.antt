-- A text has at most one list of units, and none where it has a fault.
use Rattle.std.proofs.Common.{◌≡◌, ℕ, ◌<◌, true, List, [], ◌∷◌, ◌++◌, length, replicate, All, arith, refl, ap, sym, ◌∙◌}
use Rattle.std.proofs.lemmas.Bool.{both_ways}
use Rattle.std.proofs.lemmas.List.{append_cancel_left}
use Rattle.std.proofs.lemmas.List.Elements.{All-head, All-tail}
use Rattle.annexb.specs.NalUnit.{IsUnit}
use Rattle.annexb.specs.ByteStream.{start_code, AreUnits, HasUnits, joined}
use Rattle.annexb.specs.Faults.{after_zeros, ends_unit}
use Rattle.annexb.proofs.Tails.{IsTail, IsTail-from_unit, IsTail-drop}
use Rattle.annexb.proofs.ZeroRuns.{after_zeros-replicate}
use Rattle.annexb.proofs.Clear.{FollowsUnit, EndsZeros, the_end, a_code, EndsZeros-units, FollowsUnit-zeros, ends_unit-tail, ends_unit-zeros}

-- what may follow a unit, and ends it
record IsGap (bytes : List ℕ) : Type 0 where
  follows : FollowsUnit bytes
  ends : ends_unit bytes ≡ true

-- a unit at the front ends in one place
same_front : (unit other gap others_gap : List ℕ) → IsTail unit → IsTail other → IsGap gap → IsGap others_gap
    → unit ++ gap ≡ other ++ others_gap → (unit ≡ other) × (gap ≡ others_gap)
same_front [] [] gap others_gap h h' g g' e = (refl, e)
same_front [] (byte ∷ other) gap others_gap h h' g g' e =
    absurd (both_ways _ (ends_unit-tail others_gap g'.follows (byte ∷ other) (omega arith) h') (rw e at g.ends))
same_front (byte ∷ unit) [] gap others_gap h h' g g' e =
    absurd (both_ways _ (ends_unit-tail gap g.follows (byte ∷ unit) (omega arith) h) (rw (← e) at g'.ends))
same_front (byte ∷ unit) (byte' ∷ other) gap others_gap h h' g g' e =
    let heads : byte ≡ byte' = cc in
    let tails : unit ++ gap ≡ other ++ others_gap = cc in
    let rest = same_front unit other gap others_gap (IsTail-drop 1 _ h) (IsTail-drop 1 _ h') g g' tails in
    (cc, rest.1)

-- zeros end in one place
same_rest : (count count' : ℕ) (rest rest' : List ℕ) → EndsZeros rest → EndsZeros rest' → replicate count 0 ++ rest ≡ replicate count' 0 ++ rest' → rest ≡ rest'
same_rest count count' rest rest' h h' e =
    of_after h h' (sym (after_zeros-replicate count rest) ∙ ap after_zeros e ∙ after_zeros-replicate count' rest')
  where
    of_after : {rest rest' : List ℕ} → EndsZeros rest → EndsZeros rest' → after_zeros rest ≡ after_zeros rest' → rest ≡ rest'
    of_after the_end the_end e = refl
    of_after the_end a_code e = cc
    of_after a_code the_end e = cc
    of_after a_code a_code e = cc

-- zeros and what ends them are a gap
zeros_gap : (rest : List ℕ) (count : ℕ) → EndsZeros rest → IsGap (replicate count 0 ++ rest)
zeros_gap rest count h = record { follows = FollowsUnit-zeros rest h count; ends = ends_unit-zeros rest h count }

same_units : (bytes : List ℕ) (units others : List (List ℕ)) → AreUnits bytes units → AreUnits bytes others → units ≡ others
same_units bytes [] [] h h' = refl
same_units bytes [] (other ∷ others) h (rest', begins', more') = let both = sym h ∙ begins'.bytes_are in cc
same_units bytes (unit ∷ units) [] (rest, begins, more) h' = let both = sym begins.bytes_are ∙ h' in cc
same_units bytes (unit ∷ units) (other ∷ others) (rest, begins, more) (rest', begins', more') =
    let ends = EndsZeros-units rest units more in
    let ends' = EndsZeros-units rest' others more' in
    let bodies = append_cancel_left start_code _ _ (sym begins.bytes_are ∙ begins'.bytes_are) in
    let front = same_front unit other _ _ (IsTail-from_unit unit begins.unit_is) (IsTail-from_unit other begins'.unit_is) (zeros_gap rest begins.zeros ends) (zeros_gap rest' begins'.zeros ends') bodies in
    let rests = same_rest begins.zeros begins'.zeros rest rest' ends ends' front.1 in
    let later = same_units rest units others more (rw (← rests) at more') in
    let first = front.0 in
    cc

pub same_reading : (text : List ℕ) (units others : List (List ℕ)) → HasUnits text units → HasUnits text others → units ≡ others
same_reading text units others h h' =
    let rests = same_rest h.zeros h'.zeros h.rest h'.rest (EndsZeros-units h.rest units h.rest_is) (EndsZeros-units h'.rest others h'.rest_is) (sym h.text_is ∙ h'.text_is) in
    same_units h.rest units others h.rest_is (rw (← rests) at h'.rest_is)

-- joined units are a text that has them
AreUnits-joined : (units : List (List ℕ)) → All IsUnit units → AreUnits (joined units) units
AreUnits-joined [] h = refl
AreUnits-joined (unit ∷ units) h = (
  joined units,
  record { zeros = 0; bytes_are = refl; unit_is = All-head IsUnit unit units h },
  AreUnits-joined units (All-tail IsUnit unit units h),
)

pub HasUnits-joined : (units : List (List ℕ)) → 0 < length units → All IsUnit units → HasUnits (joined units) units
HasUnits-joined units some h = record { zeros = 0; rest = joined units; text_is = refl; rest_is = AreUnits-joined units h; filled = some }
