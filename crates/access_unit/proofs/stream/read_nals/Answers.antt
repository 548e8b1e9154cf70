-- Each access unit is read from its NAL units, and what they are read as is gathered.
use Rattle.access_unit.proofs.StreamParts.{HasUnitsAt-ranges, IsStreamReadAs-gathered}
use Rattle.access_unit.proofs.stream.read_nals.Goals as goal

pub read_parts-requires-after_bounds : goal.read_parts-requires-after_bounds
read_parts-requires-after_bounds g c κs within =
    rw (c.as_slice.ensures.value, c.in_ok-shared.ensures, c.as_slice-2.ensures.value)
    (HasUnitsAt-ranges c.args.text _ _ c.requires c.in_ok-ranges.ensures.in_range)

pub returns : goal.returns
returns g c =
    let read = rw (c.as_slice.ensures.value, c.in_ok-shared.ensures, c.as_slice-2.ensures.value) at c.in_ok-answers.ensures in
    IsStreamReadAs-gathered c.args.text c.args.nals.now c.in_ok-ranges.ranges.items c.requires
    (HasUnitsAt-ranges c.args.text _ _ c.requires c.in_ok-ranges.ensures.in_range) c.in_ok-ranges.ensures.cut _ read _ c.gather.ensures.answer
