use Rattle.std.proofs.Common.{◌<◌, Some, length, arith, refl}
use Rattle.decode_jobs.specs.Indexed.{IsLast}
use Rattle.decode_jobs.proofs.dep_keys.slots.find.Goals as goal

-- src/slots.rt:25:5
pub loop-candidate-init : goal.loop-candidate-init
loop-candidate-init g c = record {
  end = length c.args.index.now;
  last = c.newest-candidate.ensures;
  within = omega arith;
  passed = λ place slot from stands is same. omega (arith, stands.0, c.requires);
}

-- src/slots.rt:28:13
pub returns-then-is_same : goal.returns-then-is_same
returns-then-is_same g c =
    let last : IsLast c.args.index.now c.loop-candidate.invariant.end c.args.fingerprint.now (Some c.in-Some.place) =
    rw c.in-Some.is at c.loop-candidate.invariant.last in
    let below : c.in-Some.place < length c.args.slots.now = omega (arith, last.0, c.loop-candidate.invariant.within, c.requires) in
    (c.in-Some.place, c.index-slots-place.result, (below, c.index-slots-place.is), refl, c.is_same.ensures.0 c.if-is_same.true)
