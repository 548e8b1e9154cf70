-- A journal's file that is written anew.
use Rattle.std.specs.Prelude.{◌≡◌, ◌⊎◌, true, false, Result, Ok, Err}
use Rattle.stand_in_session.specs.Machines.{Machine}
use Rattle.session_journal.specs.declared.unkept.Unkept.{Unkept}
use Rattle.serve_requests.specs.declared.failure.Failure.{Failure}
use Rattle.serve_requests.specs.declared.failure.Failure.TheVariants.{NoMethod}
use Rattle.serve_answers.specs.declared.answer.Answer.{Answer}
use Rattle.serve_answers.specs.declared.answer.Answer.TheVariants.{Word}
use Rattle.serve_answers.specs.declared.words.Word.TheVariants as word
use Rattle.serve_calls.specs.declared.server.Server.{Server}
use Rattle.serve_calls.specs.Failing.{out_of_memory}
use Rattle.serve_calls.specs.Offering.{Offered}
use Rattle.serve_calls.specs.Sessions.{Stays}
use Rattle.serve_calls.specs.Unmade.{unkept_failure}

-- the result where the file is written anew, or isn't
abbrev pub compact_answer : Result (Unit {0}) Unkept → Result Answer Failure
compact_answer (Ok it) = Ok (Word word.Compacted)
compact_answer (Err why) = Err (unkept_failure why)

-- the session stays, and what is added up, can be undone and can be loaded
pub record KeepsAll {B S : Type 0} (is_session : B → Machine → Type 0) (old new : Server B S) : Type 0 where
  pub session : Stays (is_session old.backend) (is_session new.backend)
  pub sums : new.sums ≡ old.sums
  pub history : new.history ≡ old.history
  pub source : new.source ≡ old.source

-- the file is written anew or isn't, and the session stays; or memory ran out for what it is to have
abbrev pub Compacts : {B S : Type 0} → (B → Machine → Type 0) → Server B S → Result Answer Failure → Server B S → Type 0
Compacts is_session old result new =
    ((answer : Result (Unit {0}) Unkept) × (result ≡ compact_answer answer) × KeepsAll is_session old new)
    ⊎ ((result ≡ Err out_of_memory) × (new ≡ old))

-- where there is no journal, no method has the name, and nothing changes
abbrev pub CompactsAs : {B S : Type 0} → (B → Machine → Type 0) → (B → Offered) → Server B S → Result Answer Failure
    → Server B S → Type 0
CompactsAs is_session offers old result new =
    ((offers old.backend).journal ≡ true → Compacts is_session old result new)
    × ((offers old.backend).journal ≡ false → (result ≡ Err NoMethod) × (new ≡ old))
