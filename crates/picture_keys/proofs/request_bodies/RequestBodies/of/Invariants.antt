use Rattle.std.proofs.Common.{◌≡◌, take}
use Rattle.decode_jobs.specs.Keys.{bodies_of}
use Rattle.picture_keys.proofs.request_bodies.RequestBodies.of.Given as goal

-- the bodies of the requests so far
abbrev pub invariant-loop-request : goal.invariant-loop-request
invariant-loop-request l = l.slices.items ≡ bodies_of (take l.request-index l.requests)
