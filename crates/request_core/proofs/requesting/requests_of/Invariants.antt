use Rattle.std.proofs.Common.{◌≡◌, take}
use Rattle.std.specs.Prelude.{vec_len}
use Rattle.request_core.specs.Requests.{requests_of}
use Rattle.request_core.proofs.requesting.requests_of.Given as goal

abbrev pub invariant-loop-listed : goal.invariant-loop-listed
invariant-loop-listed l =
    (l.requests.items ≡ take l.listed-index (requests_of l.marks.frames l.counts l.id l.slices)) × (vec_len l.requests ≡ l.listed-index)
