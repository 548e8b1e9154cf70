use Rattle.std.proofs.Common.{◌≡◌, take}
use Rattle.picture_store.proofs.inputs.copies.Given as goal

-- the requests so far
abbrev pub invariant-loop-request : goal.invariant-loop-request
invariant-loop-request l = l.copies.items ≡ take l.request-index l.requests
