use Rattle.std.proofs.Common.{◌-◌, length}
use Rattle.std.specs.Io.KnownBytes.{Consumes}
use Rattle.stream_reasons.specs.declared.file_kinds.detection.TheConstants.{FIRST_BYTES}
use Rattle.failure_reasons.proofs.file_reasons.front.first_bytes.Given as goal

abbrev pub invariant-loop-reader : goal.invariant-loop-reader
invariant-loop-reader g l = record { read : Consumes (g.R.Read.remaining l.fn.reader) (g.R.Read.remaining l.reader) l.front.items }

abbrev pub decreases-loop-reader : goal.decreases-loop-reader
decreases-loop-reader g l = FIRST_BYTES - length l.front.items
