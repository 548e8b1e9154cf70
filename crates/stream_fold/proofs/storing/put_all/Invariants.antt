use Rattle.std.proofs.Common.{◌≡◌, ◌≤◌, length, vec_len}
use Rattle.std.specs.Prelude.{reverse}
use Rattle.stream_fold.specs.Storing.{put_all}
use Rattle.stream_fold.proofs.storing.put_all.Given as goal

abbrev pub invariant-loop-place : goal.invariant-loop-place
invariant-loop-place l = record {
  left : put_all (reverse l.states.items) l.stored.states ≡ put_all (reverse l.initial.states.items) l.initial.stored.states;
  spare : length l.states.items ≤ l.stored.spare;
}

abbrev pub decreases-loop-place : goal.decreases-loop-place
decreases-loop-place l = vec_len l.states
