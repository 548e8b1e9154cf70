use Rattle.std.proofs.Common.{◌≡◌, take}
use Rattle.picture_store.specs.Referenced.{frames_of}
use Rattle.picture_store.proofs.naming.frames_of.Given as goal

-- the frames of the requests so far
abbrev pub invariant-loop-request : goal.invariant-loop-request
invariant-loop-request l = l.frames.items ≡ frames_of (take l.request-index l.requests)
