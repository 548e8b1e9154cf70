use Rattle.std.proofs.Common.{◌≡◌, ◌+◌, length, take}
use Rattle.annexb.specs.ByteStream.{joined}
use Rattle.access_unit.specs.Refusals.{most_bytes}
use Rattle.access_unit.proofs.stream.is_too_long.Given as goal

abbrev pub invariant-loop-nal : goal.invariant-loop-nal
invariant-loop-nal l = l.left + length (joined (take l.nal-index l.nals)) ≡ most_bytes
