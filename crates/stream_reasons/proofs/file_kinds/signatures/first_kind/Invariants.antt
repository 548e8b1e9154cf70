use Rattle.std.proofs.Common.{◌≡◌, drop, map}
use Rattle.stream_reasons.specs.Signatures.{first_kind, kind_row}
use Rattle.stream_reasons.proofs.file_kinds.signatures.first_kind.Given as goal

-- no row so far fits
abbrev pub invariant-loop-row : goal.invariant-loop-row
invariant-loop-row l = first_kind (map kind_row (drop l.row-index l.rows)) l.bytes ≡ first_kind (map kind_row l.rows) l.bytes
