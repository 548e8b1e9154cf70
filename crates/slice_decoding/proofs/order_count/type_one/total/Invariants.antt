use Rattle.std.proofs.Common.{◌≡◌, ◌*◌, ◌^◌, ◌≤◌, take, unsigned_abs}
use Rattle.slice_decoding.specs.TypeOne.{total}
use Rattle.slice_decoding.proofs.order_count.type_one.total.Given as goal

abbrev pub invariant-loop-offset : goal.invariant-loop-offset
invariant-loop-offset l = (l.sum ≡ total (take l.offset-index l.offsets)) × (unsigned_abs l.sum ≤ l.offset-index * 2 ^ 31)
