use Rattle.std.proofs.Common.{◌≡◌, ◌∙◌, length, ap, arith}
use Rattle.access_unit.specs.StreamUnits.{fault_of}
use Rattle.access_unit.proofs.stream_units.read_units.Goals as goal

pub returns-in-Ok-clause-only : goal.returns-in-Ok-clause-only
returns-in-Ok-clause-only g c parts stream =
    ((c.in-Ok.ensures.only parts stream.has stream.accepted).0, λ fits. record {})

pub returns-in-Ok-2-clause-only : goal.returns-in-Ok-2-clause-only
returns-in-Ok-2-clause-only g c parts stream =
    let same : c.in-Ok.units.items ≡ parts = (c.in-Ok.ensures.only parts stream.has stream.accepted).0 in
    let count : length c.in-Ok.units.items ≡ length parts = ap length same in
    (record {}, λ fits. absurd (omega (arith, c.if-len-limit.false, c.len.ensures, count, fits)))

pub returns-in-Err-clause-only : goal.returns-in-Err-clause-only
returns-in-Err-clause-only g c parts stream =
    (record {}, λ fits. c.from.ensures ∙ ap fault_of (c.in-Err.ensures.only parts stream.has stream.accepted).1)
