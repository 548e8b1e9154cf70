-- NAL units at places of a text.
use Rattle.std.proofs.Common.{◌≡◌, ℕ, ◌<◌, ◌≤◌, List, [], ◌∷◌, length, map, get_or, slice_range, All, arith, refl}
use Rattle.std.proofs.lemmas.List.{get_or-map, length-map}
use Rattle.std.proofs.lemmas.List.Elements.{All-get_or}
use Rattle.std.specs.declared.ops.Range.{Range}
use Rattle.annexb.specs.NalUnit.{IsUnit}
use Rattle.access_unit.specs.Places.{units_at}

-- the one at one place
pub unit_there : (text : List ℕ) (places : List (Range ℕ)) (at : ℕ) (none : Range ℕ) → at < length places → All IsUnit (units_at text places)
    → IsUnit (slice_range text (get_or places at none).start (get_or places at none).end)
unit_there text places at none below units =
    let there : Range ℕ → List ℕ = λ place. slice_range text place.start place.end in
    rw (get_or-map there places at none [] below) at (All-get_or IsUnit (map there places) at [] (omega (arith, length-map places there)) units)

-- of one place it is the only one
pub unit_alone : (text : List ℕ) (places : List (Range ℕ)) (none : Range ℕ) → 1 ≤ length places → length places < 2
    → units_at text places ≡ slice_range text (get_or places 0 none).start (get_or places 0 none).end ∷ []
unit_alone text [] none some few = absurd (omega arith)
unit_alone text (place ∷ []) none some few = refl
unit_alone text (place ∷ other ∷ places) none some few = absurd (omega arith)
