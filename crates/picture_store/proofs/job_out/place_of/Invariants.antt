use Rattle.std.proofs.Common.{◌≡◌, All, take}
use Rattle.picture_store.proofs.job_out.place_of.Given as goal

abbrev pub invariant-loop-at : goal.invariant-loop-at
invariant-loop-at g l =
    All (λ job. (job.number ≡ l.number) × (job.input ≡ l.input) → ⊥) (take l.at l.jobs)
