-- A server that begins anew.
use Rattle.std.specs.Prelude.{◌≡◌, ◌⊎◌, List, [], ◌∷◌, Result, Ok, Err}
use Rattle.stream_edits.specs.Edits.{no_units}
use Rattle.stand_in_session.specs.Machines.{Machine}
use Rattle.stream_session.specs.Machines.{IsEmpty}
use Rattle.edit_history.specs.States.{IsUndoRedo}
use Rattle.session_journal.specs.declared.unkept.Unkept.{Unkept}
use Rattle.serve_requests.specs.declared.failure.Failure.{Failure}
use Rattle.serve_answers.specs.declared.answer.Answer.{Answer}
use Rattle.serve_answers.specs.declared.answer.Answer.TheVariants.{Word}
use Rattle.serve_answers.specs.declared.words.Word.TheVariants as word
use Rattle.serve_calls.specs.declared.server.Server.{Server}
use Rattle.serve_calls.specs.declared.wanted_units.WantedUnit.{WantedUnit}
use Rattle.serve_calls.specs.Failing.{out_of_memory}
use Rattle.serve_calls.specs.Sessions.{Resets}
use Rattle.serve_calls.specs.Sums.{no_sums}
use Rattle.serve_calls.specs.Unmade.{unkept_failure}

-- nothing that is added up, can be undone, is wanted or can be loaded is different
pub record StaysAs {B S : Type 0} (old new : Server B S) (wanted wants : List WantedUnit) : Type 0 where
  pub sums : new.sums ≡ old.sums
  pub history : new.history ≡ old.history
  pub wants_are : wants ≡ wanted
  pub source : new.source ≡ old.source

-- the result of a reset, what is added up, what can be undone and which units are wanted then, where
-- the session is another one: nothing is added up, nothing can be undone or redone and none is wanted;
-- or that isn't recorded, and all stays
abbrev pub IsReset : {B S : Type 0} → Server B S → List WantedUnit → Result (Unit {0}) Unkept → Result Answer Failure
    → Server B S → List WantedUnit → Type 0
IsReset old wanted (Ok it) result new wants =
    (result ≡ Ok (Word word.Reset)) × (new.sums ≡ no_sums) × IsUndoRedo new.history ([] ∷ []) no_units × (wants ≡ [])
    × (new.source ≡ old.source)
IsReset old wanted (Err why) result new wants =
    (result ≡ Err (unkept_failure why)) × StaysAs old new wanted wants

-- an empty session may be the one after it, or all stays; or memory ran out, and nothing is different
abbrev pub ResetsAs : {B S : Type 0} → (B → Machine → Type 0) → Server B S → List WantedUnit → Result Answer Failure
    → Server B S → List WantedUnit → Type 0
ResetsAs is_session old wanted result new wants =
    ((session : Machine) × (answer : Result (Unit {0}) Unkept) × IsEmpty session
    × Resets (is_session old.backend) session answer (is_session new.backend) × IsReset old wanted answer result new wants)
    ⊎ ((result ≡ Err out_of_memory) × (new ≡ old) × (wants ≡ wanted))
