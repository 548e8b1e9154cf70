-- Memory that runs out, as a failure.
use Rattle.std.specs.Prelude.{◌≡◌, ◌⊎◌, Result, Err}
use Rattle.serve_requests.specs.declared.failure.Failure.{Failure}
use Rattle.serve_requests.specs.declared.failure.Failure.TheVariants.{Refused}
use Rattle.serve_requests.specs.declared.failure.CallRefusal.TheVariants as refusal
use Rattle.serve_answers.specs.declared.answer.Answer.{Answer}

-- memory ran out
abbrev pub out_of_memory : Failure
out_of_memory = Refused refusal.Memory

-- the result is this one, or that memory ran out
abbrev pub IsUnlessMemory : Result Answer Failure → Result Answer Failure → Type 0
IsUnlessMemory meant result = (result ≡ meant) ⊎ (result ≡ Err out_of_memory)
