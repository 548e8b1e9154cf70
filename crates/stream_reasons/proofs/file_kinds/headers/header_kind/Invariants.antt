use Rattle.std.proofs.Common.{◌≡◌, drop}
use Rattle.stream_reasons.specs.Headers.{header_kind}
use Rattle.stream_reasons.proofs.file_kinds.headers.header_kind.Given as goal

-- no start code so far tells a kind
abbrev pub invariant-loop-at : goal.invariant-loop-at
invariant-loop-at l = header_kind (drop l.at l.bytes) ≡ header_kind l.bytes
