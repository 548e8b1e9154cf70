-- Each access unit is read from its NAL units, and what they are read as is gathered.
use Rattle.access_unit.proofs.StreamParts.{HasUnitsAt-ranges, IsStreamReadAs-gathered}
use Rattle.access_unit.proofs.reading.read_nals.Goals as goal

pub read_parts-requires : goal.read_parts-requires
read_parts-requires c =
    rw c.deref.ensures.value (HasUnitsAt-ranges c.requires.0 _ _ c.requires.1 c.in_ok-ranges.ensures.in_range)

pub returns : goal.returns
returns c = λ text has.
    let read = rw c.deref.ensures.value at c.in_ok-answers.ensures in
    IsStreamReadAs-gathered text c.args.nals.now c.in_ok-ranges.ranges.items has
    (HasUnitsAt-ranges text _ _ has c.in_ok-ranges.ensures.in_range) c.in_ok-ranges.ensures.cut _ read _ c.gather.ensures.answer
