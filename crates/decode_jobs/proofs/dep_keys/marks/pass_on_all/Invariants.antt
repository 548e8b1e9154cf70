use Rattle.std.proofs.Common.{◌≡◌, ◌≤◌, drop, length}
use Rattle.decode_jobs.specs.Marks.{all_passed_on}
use Rattle.decode_jobs.proofs.dep_keys.marks.pass_on_all.Given as goal

abbrev pub invariant-loop-place : goal.invariant-loop-place
invariant-loop-place g l = (l.place ≤ length l.slots) × (l.marks ≡ all_passed_on l.initial.marks (drop l.place l.slots))

abbrev pub decreases-loop-place : goal.decreases-loop-place
decreases-loop-place g l = l.place
