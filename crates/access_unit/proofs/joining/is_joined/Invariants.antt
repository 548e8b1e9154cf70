use Rattle.std.proofs.Common.{◌≡◌, ◌++◌, take}
use Rattle.annexb.specs.ByteStream.{joined}
use Rattle.access_unit.proofs.joining.is_joined.Given as goal

-- the NAL units so far stand in front of the rest
abbrev pub invariant-loop-nal : goal.invariant-loop-nal
invariant-loop-nal l = joined (take l.nal-index l.nals) ++ l.rest ≡ l.text
