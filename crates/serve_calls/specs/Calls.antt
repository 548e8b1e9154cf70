-- The result of each call, and what becomes of the server and of the units that are wanted.
use Rattle.std.specs.Prelude.{◌≡◌, ℕ, Bool, true, false, List, Option, option_map, Result, Ok, Err}
use Rattle.edit_script.specs.Words.{id_of}
use Rattle.stand_in_session.specs.Machines.{Machine}
use Rattle.serve_requests.specs.declared.call.Call.{Call}
use Rattle.serve_requests.specs.declared.call.Call.TheVariants as call
use Rattle.serve_requests.specs.declared.failure.Failure.{Failure}
use Rattle.serve_requests.specs.declared.failure.Failure.TheVariants.{NoMethod}
use Rattle.serve_answers.specs.declared.answer.Answer.{Answer}
use Rattle.serve_answers.specs.declared.answer.Answer.TheVariants.{Nothing}
use Rattle.serve_calls.specs.declared.server.Server.{Server}
use Rattle.serve_calls.specs.declared.wanted_units.WantedUnit.{WantedUnit}
use Rattle.serve_calls.specs.Answering.{Introduces, TellsFound, TellsShown, TellsStats, TellsUnits}
use Rattle.serve_calls.specs.Compacting.{CompactsAs}
use Rattle.serve_calls.specs.Editing.{DropsAs, EditsAs, GroupsAs, MarksAs}
use Rattle.serve_calls.specs.Resetting.{ResetsAs}
use Rattle.serve_calls.specs.Texts.{TellsJournal, TellsText}
use Rattle.serve_calls.specs.Jobs.{GivesBackAs, LandsAs, TakesAs}
use Rattle.serve_calls.specs.Loading.{LoadsAs}
use Rattle.serve_calls.specs.Saving.{SavesAs}
use Rattle.serve_calls.specs.Sessions.{Steps}
use Rattle.serve_calls.specs.Undoing.{RedoesAs, UndoesAs}
use Rattle.serve_calls.specs.Wanting.{WantsAs}
use Rattle.serve_calls.specs.Offering.{Offered}

-- a call about jobs: the session answers it where there are such calls, and else no method has the
-- name and nothing changes
abbrev pub IsOfJobs : {B S : Type 0} → (B → Machine → Type 0) → (B → Offered) → Server B S
    → (Machine → Result Answer Failure → Machine → Type 0) → Result Answer Failure → Server B S → Type 0
IsOfJobs is_session offers old step result new =
    ((offers old.backend).jobs ≡ true
    → Steps (is_session old.backend) (λ before after. step before result after) (is_session new.backend))
    × ((offers old.backend).jobs ≡ false → (result ≡ Err NoMethod) × (new.backend ≡ old.backend))
    × (new.sums ≡ old.sums) × (new.source ≡ old.source) × (new.history ≡ old.history)

-- the result of a call that leaves the units that are wanted
abbrev pub IsAnswered : {B S : Type 0} → (B → Machine → Type 0) → (B → Offered) → (S → List ℕ → Option (List ℕ)) → Server B S
    → Call → Result Answer Failure → Server B S → Type 0
IsAnswered is lends file old call.Initialize result new = Introduces (lends old.backend) result × (new ≡ old)
IsAnswered is lends file old (call.Load loaded mend) result new = LoadsAs is file old loaded mend result new
IsAnswered is lends file old (call.Save name) result new = SavesAs file old name result new
IsAnswered is lends file old (call.Edit edit) result new = EditsAs is old edit result new
IsAnswered is lends file old (call.Group edits) result new = GroupsAs is old edits result new
IsAnswered is lends file old call.Undo result new = UndoesAs is old result new
IsAnswered is lends file old call.Redo result new = RedoesAs is old result new
IsAnswered is lends file old call.Mark result new = MarksAs is old result new
IsAnswered is lends file old (call.Units from count controls) result new =
    TellsUnits (is old.backend) from count controls result × (new ≡ old)
IsAnswered is lends file old (call.Text number) result new = TellsText old.history number result × (new ≡ old)
IsAnswered is lends file old (call.Find position) result new = TellsFound (is old.backend) position result × (new ≡ old)
IsAnswered is lends file old (call.Show number) result new = TellsShown (is old.backend) number result × (new ≡ old)
IsAnswered is lends file old (call.Want ids rest) result new = ⊥
IsAnswered is lends file old (call.Drop number) result new = DropsAs is old number result new
IsAnswered is lends file old (call.Take number) result new =
    IsOfJobs is lends old (TakesAs (option_map id_of number)) result new
IsAnswered is lends file old (call.Land number) result new = IsOfJobs is lends old (LandsAs number) result new
IsAnswered is lends file old (call.GiveBack number) result new = IsOfJobs is lends old (GivesBackAs number) result new
IsAnswered is lends file old (call.Journal from count) result new = TellsJournal (is old.backend) from count result × (new ≡ old)
IsAnswered is lends file old call.Stats result new = TellsStats (is old.backend) old.sums result × (new ≡ old)
IsAnswered is lends file old call.Reset result new = ⊥
IsAnswered is lends file old call.Compact result new = CompactsAs is lends old result new
IsAnswered is lends file old call.Shutdown result new = (result ≡ Ok Nothing) × (new ≡ old)

-- the result of a call, of which a want and a reset change the units that are wanted
abbrev pub AnswersCall : {B S : Type 0} → (B → Machine → Type 0) → (B → Offered) → (S → List ℕ → Option (List ℕ)) → Server B S
    → List WantedUnit → Call → Bool → Result Answer Failure → Server B S → List WantedUnit → Type 0
AnswersCall is lends file old wanted (call.Want ids rest) is_answered result new wants =
    WantsAs is old wanted ids is_answered result new wants
AnswersCall is lends file old wanted call.Reset is_answered result new wants = ResetsAs is old wanted result new wants
AnswersCall is lends file old wanted it is_answered result new wants =
    IsAnswered is lends file old it result new × (wants ≡ wanted)
