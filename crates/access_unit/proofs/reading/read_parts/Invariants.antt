use Rattle.std.proofs.Common.{take}
use Rattle.std.specs.List.{AllZip}
use Rattle.annexb.specs.ByteStream.{joined}
use Rattle.annexb.specs.AccessUnits.{parts_at}
use Rattle.access_unit.specs.Answers.{IsReadAs}
use Rattle.access_unit.proofs.reading.read_parts.Given as goal

-- the access units so far are read
abbrev pub invariant-loop-range : goal.invariant-loop-range
invariant-loop-range l =
    AllZip (λ part answer. IsReadAs (joined part) answer) (parts_at l.nals (take l.range-index l.ranges)) l.answers.items
