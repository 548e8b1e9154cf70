use Rattle.std.proofs.Common.{◌≡◌, ◌≤◌, length, vec_len}
use Rattle.stream_check.proofs.spans.spans.Given as goal

-- a place for each unit so far
abbrev pub invariant-loop-unit : goal.invariant-loop-unit
invariant-loop-unit l = record {
  each : vec_len l.spans ≡ l.unit-index;
  within : length l.rest ≤ length l.text;
}
