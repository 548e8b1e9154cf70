-- As many NAL units stand after the first slice as there are slices, and all are slices.
use Rattle.std.proofs.Common.{◌≡◌, ◌+◌, length, ap, arith}
use Rattle.std.specs.List.{filter}
use Rattle.annexb.specs.NalUnit.{is_slice}
use Rattle.access_unit.proofs.Trailing.{passing, trailing}
use Rattle.access_unit.proofs.placed.placed.Goals as goal

pub returns-then-are_slices : goal.returns-then-are_slices
returns-then-are_slices c =
    let nals = c.args.nals.now in
    let first = c.saturating_sub-first.result in
    let few = passing is_slice nals in
    let slices : length c.args.slices.items ≡ length (filter is_slice nals) = ap length c.requires in
    let count : first + length (filter is_slice nals) ≡ length nals =
    omega (arith, few, slices, c.args.slices.ok.0, c.len.ensures, c.saturating_sub-first.ensures) in
    record { slices_are = trailing is_slice nals first count (rw (← c.split_at.ensures.back, ← c.are_slices.ensures) c.if-are_slices.true); within = omega (arith, count) }
