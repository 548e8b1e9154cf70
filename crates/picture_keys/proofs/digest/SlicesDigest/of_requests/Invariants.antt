use Rattle.std.proofs.Common.{take}
use Rattle.std.specs.List.{flat_map}
use Rattle.sha2.specs.Hashers.{Holds256}
use Rattle.picture_keys.specs.Digests.{bytes_of}
use Rattle.picture_keys.specs.SliceBytes.{sized}
use Rattle.picture_keys.proofs.digest.SlicesDigest.of_requests.Given as goal

-- the bytes of the requests so far were fed
abbrev pub invariant-loop-request : goal.invariant-loop-request
invariant-loop-request l = Holds256 l.hasher (flat_map sized (bytes_of (take l.request-index l.requests)))
