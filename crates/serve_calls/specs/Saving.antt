-- The stream that a server saves as a file, and the result.
use Rattle.std.specs.Prelude.{◌≡◌, ℕ, ◌-◌, ◌^◌, List, length, min, sum_by, Option, Result, Ok, Err}
use Rattle.console_io.specs.declared.file_saving.folder.Unsaved.{Unsaved}
use Rattle.console_io.specs.declared.file_saving.folder.Unsaved.TheVariants.{Unwritten, Memory}
use Rattle.console_io.specs.Saved.{Saves, joined}
use Rattle.serve_requests.specs.declared.failure.Failure.{Failure}
use Rattle.serve_requests.specs.declared.failure.Failure.TheVariants.{Refused}
use Rattle.serve_requests.specs.declared.failure.CallRefusal.TheVariants as refusal
use Rattle.serve_answers.specs.declared.answer.Answer.{Answer}
use Rattle.serve_answers.specs.declared.answer.Answer.TheVariants.{Saved}
use Rattle.serve_calls.specs.declared.server.Server.{Server}
use Rattle.serve_calls.specs.Failing.{out_of_memory}

-- how many bytes texts have, or the largest count that is told
abbrev pub bytes_in : List (List ℕ) → ℕ
bytes_in texts = min (sum_by length texts) (2 ^ 64 - 1)

-- the result of a save: how much was saved; or that the file can't be written, or that memory ran out
abbrev pub save_answer : List (List ℕ) → Result (Unit {0}) Unsaved → Result Answer Failure
save_answer texts (Ok it) = Ok (Saved (length texts) (bytes_in texts))
save_answer texts (Err Unwritten) = Err (Refused refusal.CannotWrite)
save_answer texts (Err Memory) = Err out_of_memory

-- the texts that are kept of the stream's units are saved as the file of a name; or each file has what it had, and the
-- result says why. The session and all else stays
abbrev pub SavesAs : {B S : Type 0} → (S → List ℕ → Option (List ℕ)) → Server B S → List ℕ → Result Answer Failure → Server B S → Type 0
SavesAs file old name result new =
    ((answer : Result (Unit {0}) Unsaved)
    × Saves (file old.source) name (joined old.history.units.texts.items) answer (file new.source)
    × (result ≡ save_answer old.history.units.texts.items answer))
    × (new.backend ≡ old.backend) × (new.sums ≡ old.sums) × (new.history ≡ old.history)
