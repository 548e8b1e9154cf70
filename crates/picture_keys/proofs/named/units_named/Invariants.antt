use Rattle.std.proofs.Common.{◌≡◌, take}
use Rattle.decode_jobs.specs.Keys.{named_by_all}
use Rattle.picture_keys.proofs.named.units_named.Given as goal

-- the units that the requests so far name
abbrev pub invariant-loop-request : goal.invariant-loop-request
invariant-loop-request l = l.units.items ≡ named_by_all (take l.request-index l.requests)
