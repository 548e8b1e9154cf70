use Rattle.std.proofs.Common.{◌≡◌, ℕ, ◌<◌, ◌≤◌, Some}
use Rattle.std.specs.Prelude.{slice_get}
use Rattle.stream_edits.specs.Streams.{ids_of}
use Rattle.worker_jobs.specs.Rests.{IsSettled}
use Rattle.decode_pool.proofs.state.DeskState.first_pending.Given as goal

abbrev pub invariant-loop-at : goal.invariant-loop-at
invariant-loop-at g l =
    (k id : ℕ) → l.from ≤ k → k < l.at → slice_get (ids_of l.self.session.register.stream) k ≡ Some id → IsSettled g.P.Decoded.IsOf l.self.session id
