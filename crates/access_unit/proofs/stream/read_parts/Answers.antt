-- What the closure says of each range is said of the access unit at it.
use Rattle.std.proofs.Common.{◌∙◌, ℕ, List, ap, slice_range}
use Rattle.std.specs.declared.ops.Range.{Range}
use Rattle.rayon.proofs.ListFacts.{IfOk-then, AllZip-through}
use Rattle.rayon.proofs.ToStd.{slice-AllZip}
use Rattle.access_unit.proofs.StreamParts.{IsReading}
use Rattle.access_unit.proofs.stream.read_parts.Goals as goal

pub returns : goal.returns
returns g c =
    let slice = ap (λ it. it.slice.now) c.with_min_len.ensures.base ∙ c.par_iter.ensures in
    let part_at : Range ℕ → List (List ℕ) = λ range. slice_range c.args.nals.now range.start range.end in
    IfOk-then c.collect.result _ _ c.collect.ensures (λ v h.
    let chain = rw (c.map.ensures.base, c.map.ensures.f) at h.1 in
    rw h.2 (AllZip-through part_at (λ range answer. IsReading (part_at range) answer) IsReading (λ range answer read. read) c.args.ranges.now h.0
    (slice-AllZip chain.0 c.args.ranges.now (chain.1 ∙ slice) (λ range answer. IsReading (part_at range) answer) h.0 chain.2)))
