-- A text of NAL units is read as they are.
use Rattle.std.proofs.Common.{Err}
use Rattle.access_unit.specs.declared.stream.StreamRefused.TheVariants.{Split}
use Rattle.access_unit.specs.Streams.{IsStreamReadAs}
use Rattle.access_unit.proofs.StreamParts.{only_stream, unsplit}
use Rattle.access_unit.proofs.stream.read_shared_stream.Goals as goal

pub returns-in_default-clause-read : goal.returns-in_default-clause-read
returns-in_default-clause-read g c = unsplit _ _ c.in_default.not-Some (rw c.as_slice.ensures at c.in_ok-nals.ensures.ok)

pub returns-in_default-clause-only : goal.returns-in_default-clause-only
returns-in_default-clause-only g c = λ parts has accepted.
    only_stream c.args.text.now parts has accepted (Err Split)
    (unsplit _ _ c.in_default.not-Some (rw c.as_slice.ensures at c.in_ok-nals.ensures.ok))

pub returns-clause-only : goal.returns-clause-only
returns-clause-only g c = λ parts has accepted.
    let read : IsStreamReadAs c.args.text.now c.read_nals.result = rw (← c.in_ok-clone.ensures.cases) c.read_nals.ensures in
    only_stream c.args.text.now parts has accepted c.read_nals.result read
