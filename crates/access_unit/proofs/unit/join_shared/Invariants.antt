use Rattle.std.proofs.Common.{◌≡◌, take}
use Rattle.annexb.specs.ByteStream.{joined}
use Rattle.access_unit.proofs.unit.join_shared.Given as goal

abbrev pub invariant-loop-nal : goal.invariant-loop-nal
invariant-loop-nal l = l.text.items ≡ joined (take l.nal-index l.nals)
