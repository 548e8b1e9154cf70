use Rattle.std.specs.Prelude.{◌≡◌, map, take}
use Rattle.unit_printing.specs.RequestsJson.{request_json}
use Rattle.unit_printing.proofs.json.request_json.objects.Given as goal

-- the objects of the requests so far
abbrev pub invariant-loop-request : goal.invariant-loop-request
invariant-loop-request l = l.objects.items ≡ map request_json (take l.request-index l.requests)
