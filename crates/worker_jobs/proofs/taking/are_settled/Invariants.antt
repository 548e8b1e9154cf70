use Rattle.std.proofs.Common.{◌≡◌, ℕ, ◌<◌, Some}
use Rattle.std.specs.Prelude.{slice_get}
use Rattle.worker_jobs.specs.Rests.{IsSettled}
use Rattle.worker_jobs.proofs.taking.are_settled.Given as goal

abbrev pub invariant-loop-number : goal.invariant-loop-number
invariant-loop-number g l =
    (at id : ℕ) → at < l.number-index → slice_get l.numbers at ≡ Some id → IsSettled g.P.Decoded.IsOf l.session id
