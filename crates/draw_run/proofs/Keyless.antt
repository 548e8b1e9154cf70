-- Units of a stream that have no key.
use Rattle.std.proofs.Common.{◌≡◌, ℕ, zero, suc, List, [], ◌∷◌, length, Option, None, Some, ap, sym, refl, ◌∙◌}
use Rattle.std.specs.Prelude.{slice_get, option_and_then}
use Rattle.std.specs.List.{zip}
use Rattle.unit_outcomes.specs.declared.outcome.Outcome.{Outcome}
use Rattle.unit_outcomes.specs.declared.outcome.Outcome.TheVariants.{Plan, Fault, Empty}
use Rattle.unit_outcomes.specs.declared.outcome.Plan.{Plan as PlanValue}
use Rattle.unit_outcomes.specs.declared.validity_fault.ValidityFault.{ValidityFault}
use Rattle.decode_jobs.specs.Keys.{Key}
use Rattle.picture_keys.specs.Known.{Known, key_of_outcome, keys_after, known_with}
use Rattle.request_core.specs.Fold.{outcomes_of}
use Rattle.stream_edits.specs.Streams.{Stream, ids_of, place_of}
use Rattle.stream_session.specs.Altered.{IsAltered}
use Rattle.stream_session.specs.Showing.{HasKey, keys_in}
use Rattle.stream_session.specs.Streams.{outcome_in}
use Rattle.stand_in_session.specs.Machines.{Machine}

some_same : {X : Type 0} (a b : X) → Some a ≡ Some b → a ≡ b
some_same a b is = cc

some_none : {X : Type 0} (a : X) → Some a ≡ None → ⊥
some_none a is = cc

-- an id for each unit
pub length-ids : (stream : Stream) → length (ids_of stream) ≡ length stream
length-ids [] = refl
length-ids (unit ∷ stream) = ap (λ n. suc n) (length-ids stream)

-- a unit without a plan has no key
no_key : (known : Known) (ids : List ℕ) (outcomes : List Outcome) (at : ℕ) (outcome : Outcome) (key : Key)
    → ((plan : PlanValue) → outcome ≡ Plan plan → ⊥) → slice_get outcomes at ≡ Some outcome
    → slice_get (keys_after known (zip ids outcomes)) at ≡ Some (Some key) → ⊥
no_key known ids [] at outcome key not is has = absurd (some_none outcome (sym is))
no_key known [] (first ∷ outcomes) zero outcome key not is has = absurd (some_none (Some key) (sym has))
no_key known [] (first ∷ outcomes) (suc at) outcome key not is has = absurd (some_none (Some key) (sym has))
no_key known (id ∷ ids) (Plan plan ∷ outcomes) zero outcome key not is has = not plan (sym (some_same (Plan plan) outcome is))
no_key known (id ∷ ids) (Fault fault ∷ outcomes) zero outcome key not is has = some_none key (sym (some_same None (Some key) has))
no_key known (id ∷ ids) (Empty ∷ outcomes) zero outcome key not is has = some_none key (sym (some_same None (Some key) has))
no_key known (id ∷ ids) (first ∷ outcomes) (suc at) outcome key not is has =
    no_key (known_with known id (key_of_outcome known first)) ids outcomes at outcome key not is has

-- nor has one that isn't valid
pub without-key : (stream : Stream) (id : ℕ) (outcome : Outcome) → ((plan : PlanValue) → outcome ≡ Plan plan → ⊥)
    → outcome_in stream id ≡ Some outcome → (key : Key) → HasKey stream id key → ⊥
without-key stream id outcome not is key has = by_place (place_of stream id) is has
  where
    by_place : (place : Option ℕ) → option_and_then (slice_get (outcomes_of stream)) place ≡ Some outcome
        → option_and_then (slice_get (keys_in stream)) place ≡ Some (Some key) → ⊥
    by_place None found stands = some_none outcome (sym found)
    by_place (Some at) found stands = no_key [] (ids_of stream) (outcomes_of stream) at outcome key not found stands

pub fault-plan : (fault : ValidityFault) (plan : PlanValue) → Fault fault ≡ Plan plan → ⊥
fault-plan fault plan same = cc

pub empty-plan : (plan : PlanValue) → Empty ≡ Plan plan → ⊥
empty-plan plan same = cc

-- nor one that isn't there
pub absent-key : (stream : Stream) (id : ℕ) → place_of stream id ≡ None → (key : Key) → HasKey stream id key → ⊥
absent-key stream id none key has =
    some_none (Some key) (sym has ∙ ap (option_and_then (slice_get (keys_in stream))) none)

-- so that it isn't altered
pub absent-unaltered : (machine : Machine) (id : ℕ) → place_of machine.register.stream id ≡ None → IsAltered machine id → ⊥
absent-unaltered machine id none altered = absent-key machine.register.stream id none altered.key altered.has
