-- The ids of a stream's units.
use Rattle.std.proofs.Common.{◌≡◌, ◌∙◌, ap, ℕ, ◌+◌, Bool, List, [], ◌∷◌, ◌++◌, length, map, zero, suc, arith, refl}
use Rattle.std.proofs.lemmas.Option.{same_Some}
use Rattle.unit_outcomes.specs.declared.outcome.Outcome.{Outcome}
use Rattle.unit_outcomes.specs.SeenUnits.{HasId, seen_units}
use Rattle.unit_outcomes.specs.InDoubt.{IdsDiffer}
use Rattle.unit_outcomes.specs.References.{is_of_reference}
use Rattle.unit_printing.specs.Seen.{ids_from, stream_seen}

-- so many ids, and one more
pub ids_more : (id count : ℕ) → ids_from id (suc count) ≡ ids_from id count ++ (id + count) ∷ []
ids_more id zero =
    let first : id ≡ id + 0 = omega arith in
    ap (λ last. last ∷ []) first
ids_more id (suc count) =
    let last : id + 1 + count ≡ id + suc count = omega arith in
    ap (λ ids. id ∷ ids) (ids_more (id + 1) count) ∙ ap (λ last. id ∷ (ids_from (id + 1) count ++ last ∷ [])) last

-- how many they are
pub length_ids : (id count : ℕ) → length (ids_from id count) ≡ count
length_ids id zero = refl
length_ids id (suc count) = ap (λ n. suc n) (length_ids (id + 1) count)

-- the id of the unit at a place
id_at : (first count : ℕ) (references : List Bool) (outcomes : List Outcome) (at id : ℕ)
    → HasId (seen_units (ids_from first count) references outcomes) at id → id ≡ first + at
id_at first zero references outcomes at id has = cc
id_at first (suc count) [] outcomes at id has = cc
id_at first (suc count) (r ∷ references) [] at id has = cc
id_at first (suc count) (r ∷ references) (o ∷ outcomes) zero id has =
    let same = same_Some first id has in
    omega (arith, same)
id_at first (suc count) (r ∷ references) (o ∷ outcomes) (suc at) id has =
    let rest = id_at (first + 1) count references outcomes at id has in
    omega (arith, rest)

-- no two units have one id
pub ids_differ : (units : List (List (List ℕ))) (outcomes : List Outcome) → IdsDiffer (stream_seen units outcomes)
ids_differ units outcomes at other id here there =
    let one = id_at 1 (length units) (map is_of_reference units) outcomes at id here in
    let two = id_at 1 (length units) (map is_of_reference units) outcomes other id there in
    omega (arith, one, two)
