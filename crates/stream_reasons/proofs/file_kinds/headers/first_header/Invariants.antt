use Rattle.std.proofs.Common.{◌≡◌, drop, map}
use Rattle.stream_reasons.specs.Headers.{first_header, header_row}
use Rattle.stream_reasons.proofs.file_kinds.headers.first_header.Given as goal

-- the bytes begin with no header so far
abbrev pub invariant-loop-header : goal.invariant-loop-header
invariant-loop-header l = first_header (map header_row (drop l.header-index l.headers)) l.bytes ≡ first_header (map header_row l.headers) l.bytes
