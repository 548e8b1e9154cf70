-- The units of a stream in columns, and their ids.
use Rattle.std.proofs.Common.{◌≡◌, ap, sym, ◌∙◌, ℕ, zero, suc, Bool, List, [], ◌∷◌, length, Some, option_map}
use Rattle.std.specs.Prelude.{slice_get}
use Rattle.std.proofs.lemmas.List.{length-map}
use Rattle.std.proofs.lemmas.Option.{same_Some, slice_get-map}
use Rattle.unit_outcomes.specs.declared.outcome.Outcome.{Outcome}
use Rattle.request_core.specs.Fold.{outcomes_of}
use Rattle.unit_outcomes.specs.References.{is_of_reference}
use Rattle.unit_outcomes.specs.SeenUnits.{HasId, seen_units}
use Rattle.unit_outcomes.specs.InDoubt.{IdsDiffer}
use Rattle.unit_outcomes.proofs.Columns.{seen_at}
use Rattle.picture_store.specs.Stores.{StoreValue}
use Rattle.stream_edits.specs.Edits.{Register}
use Rattle.stream_edits.specs.Streams.{Stream, ids_of}
use Rattle.stream_session.specs.Doubting.{references_of, seen_in, seen_with}
use Rattle.stream_session.specs.Stored.{History, IsSound}
use Rattle.stream_session.proofs.Looked.{place_kept}

-- there are as many of each column
pub many_references : (stream : Stream) → length (references_of stream) ≡ length (ids_of stream)
many_references stream =
    length-map stream (λ (unit : ℕ × List (List ℕ)). is_of_reference unit.1)
    ∙ sym (length-map stream (λ (unit : ℕ × List (List ℕ)). unit.0))

pub many_outcomes : (stream : Stream) (outcomes : List Outcome) → length outcomes ≡ length stream → length outcomes ≡ length (ids_of stream)
many_outcomes stream outcomes same = same ∙ sym (length-map stream (λ (unit : ℕ × List (List ℕ)). unit.0))

-- the unit at a place of a stream
pub stream_at : (stream : Stream) (outcomes : List Outcome) (at : ℕ) (unit : ℕ × List (List ℕ)) (outcome : Outcome)
    → slice_get stream at ≡ Some unit → slice_get outcomes at ≡ Some outcome
    → slice_get (seen_with stream outcomes) at
    ≡ Some (record { id = unit.0; is_reference = is_of_reference unit.1; outcome = outcome })
stream_at stream outcomes at unit outcome stands becomes =
    seen_at (ids_of stream) (references_of stream) outcomes at unit.0 (is_of_reference unit.1) outcome
    (slice_get-map (λ (u : ℕ × List (List ℕ)). u.0) stream at ∙ ap (option_map (λ (u : ℕ × List (List ℕ)). u.0)) stands)
    (slice_get-map (λ (u : ℕ × List (List ℕ)). is_of_reference u.1) stream at
    ∙ ap (option_map (λ (u : ℕ × List (List ℕ)). is_of_reference u.1)) stands)
    becomes

-- the unit of columns that has an id stands where the id does
id_at : (ids : List ℕ) (references : List Bool) (outcomes : List Outcome) (at id : ℕ)
    → HasId (seen_units ids references outcomes) at id → slice_get ids at ≡ Some id
id_at [] references outcomes at id is = cc
id_at (i ∷ ids) [] [] at id is = cc
id_at (i ∷ ids) [] (o ∷ outcomes) at id is = cc
id_at (i ∷ ids) (r ∷ references) [] at id is = cc
id_at (i ∷ ids) (r ∷ references) (o ∷ outcomes) zero id is = is
id_at (i ∷ ids) (r ∷ references) (o ∷ outcomes) (suc at) id is = id_at ids references outcomes at id is

module _ {P : Type 0} where
  -- no two units of a session's stream have one id
  pub ids_differ : (history : History) (register : Register) (store : StoreValue P) → IsSound history register store
      → IdsDiffer (seen_in register.stream)
  ids_differ history register store kept at other id is also =
      let stands = id_at (ids_of register.stream) (references_of register.stream) (outcomes_of register.stream) in
      same_Some at other
      (sym (place_kept history register store kept id at (stands at id is))
      ∙ place_kept history register store kept id other (stands other id also))
