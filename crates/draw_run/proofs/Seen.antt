-- The units of a stream as doubts see them, and a walk over them.
use Rattle.std.proofs.Common.{◌≡◌, ◌∙◌, ◌⊎◌, inl, ℕ, zero, suc, ◌+◌, Bool, List, [], ◌∷◌, ◌++◌, length, Some, slice_get, subst, ap, sym, refl, append_assoc, arith, length-append}
use Rattle.std.proofs.lemmas.Option.{same_Some}
use Rattle.unit_outcomes.specs.InDoubt.{AreDoubts, IdsDiffer, IsDoubt}
use Rattle.unit_outcomes.specs.SeenUnits.{HasId, IsIdrAt, SeenUnit}
use Rattle.unit_outcomes.specs.Walks.{IsBefore}
use Rattle.unit_outcomes.specs.declared.doubts.walk.Doubt.{Doubt}
use Rattle.unit_outcomes.specs.declared.doubts.walk.DoubtWalk.{DoubtWalk}
use Rattle.unit_outcomes.proofs.Columns.{told_more, told_none}
use Rattle.unit_outcomes.specs.declared.outcome.Outcome.{Outcome}
use Rattle.plan_stream.specs.Streams.{numbered_from}
use Rattle.stream_edits.specs.Streams.{Stream}
use Rattle.unit_outcomes.specs.References.{is_of_reference}
use Rattle.stream_session.specs.Doubting.{seen_with}
use Rattle.draw_run.specs.Folds.{AreWalked}
use Rattle.draw_run.proofs.Pointwise.{get-middle}

-- a unit as doubts see it
abbrev pub seen_of : ℕ → List (List ℕ) → Outcome → SeenUnit
seen_of id unit outcome = record { id = id; is_reference = is_of_reference unit; outcome = outcome }

-- one more
pub seen-push : (stream : Stream) (outcomes : List Outcome) (id : ℕ) (unit : List (List ℕ)) (outcome : Outcome)
    → length stream ≡ length outcomes
    → seen_with (stream ++ (id, unit) ∷ []) (outcomes ++ outcome ∷ []) ≡ seen_with stream outcomes ++ seen_of id unit outcome ∷ []
seen-push [] [] id unit outcome same = refl
seen-push [] (o ∷ outcomes) id unit outcome same = absurd (omega (arith, same))
seen-push (u ∷ stream) [] id unit outcome same = absurd (omega (arith, same))
seen-push (u ∷ stream) (o ∷ outcomes) id unit outcome same =
    ap (λ l. seen_of u.0 u.1 o ∷ l) (seen-push stream outcomes id unit outcome (omega (arith, same)))

-- how many they are
pub length-seen : (stream : Stream) (outcomes : List Outcome) → length stream ≡ length outcomes
    → length (seen_with stream outcomes) ≡ length stream
length-seen [] outcomes same = refl
length-seen (u ∷ stream) [] same = absurd (omega (arith, same))
length-seen (u ∷ stream) (o ∷ outcomes) same = ap (λ n. suc n) (length-seen stream outcomes (omega (arith, same)))

-- the id of the unit at a place
id_at : (first : ℕ) (parts : List (List (List ℕ))) (outcomes : List Outcome) (at id : ℕ)
    → HasId (seen_with (numbered_from first parts) outcomes) at id → id ≡ first + at
id_at first [] outcomes at id has = cc
id_at first (part ∷ parts) [] at id has = cc
id_at first (part ∷ parts) (o ∷ outcomes) zero id has = let same = same_Some first id has in omega (arith, same)
id_at first (part ∷ parts) (o ∷ outcomes) (suc at) id has =
    let rest = id_at (first + 1) parts outcomes at id has in omega (arith, rest)

-- no two units have one id
pub ids_differ : (parts : List (List (List ℕ))) (outcomes : List Outcome) → IdsDiffer (seen_with (numbered_from 1 parts) outcomes)
ids_differ parts outcomes at other id here there =
    let one = id_at 1 parts outcomes at id here in
    let two = id_at 1 parts outcomes other id there in
    omega (arith, one, two)

-- a walk that begins
pub walked-none : (walk : DoubtWalk) → ((units : List SeenUnit) (at : ℕ) → (at ≡ 0) ⊎ IsIdrAt units at → IsBefore units at walk)
    → AreWalked [] walk []
walked-none walk begins = record {
  walk_is = λ rest differ. begins rest 0 (inl refl);
  doubts_are = λ rest differ. told_none rest 0 0 refl;
}

-- a walk over one unit more
pub walked-more : (seen : List SeenUnit) (walk next : DoubtWalk) (doubts : List Doubt) (unit : SeenUnit) (doubt : Doubt)
    → AreWalked seen walk doubts
    → ((units : List SeenUnit) (at : ℕ) → IdsDiffer units → slice_get units at ≡ Some unit → IsBefore units at walk
    → IsDoubt units at doubt × IsBefore units (at + 1) next)
    → AreWalked (seen ++ unit ∷ []) next (doubts ++ doubt ∷ [])
walked-more seen walk next doubts unit doubt are passes =
    let long : length (seen ++ unit ∷ []) ≡ length seen + 1 = omega (arith, length-append seen (unit ∷ [])) in
    record {
      walk_is = λ rest differ.
          let same = append_assoc seen (unit ∷ []) rest in
          let differs = subst IdsDiffer same differ in
          let passed = passes (seen ++ unit ∷ rest) (length seen) differs (get-middle seen unit rest) (are.walk_is (unit ∷ rest) differs) in
          subst (λ (units : List SeenUnit). IsBefore units (length (seen ++ unit ∷ [])) next) (sym same)
          (subst (λ (n : ℕ). IsBefore (seen ++ unit ∷ rest) n next) (sym long) passed.1);
      doubts_are = λ rest differ.
          let same = append_assoc seen (unit ∷ []) rest in
          let differs = subst IdsDiffer same differ in
          let passed = passes (seen ++ unit ∷ rest) (length seen) differs (get-middle seen unit rest) (are.walk_is (unit ∷ rest) differs) in
          subst (λ (units : List SeenUnit). AreDoubts units 0 (length (seen ++ unit ∷ [])) (doubts ++ doubt ∷ [])) (sym same)
          (told_more (seen ++ unit ∷ rest) 0 (length seen) (length (seen ++ unit ∷ [])) (length seen) doubts doubt long (omega arith)
          (are.doubts_are (unit ∷ rest) differs) passed.0);
    }
