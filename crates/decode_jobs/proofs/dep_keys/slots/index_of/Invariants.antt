use Rattle.std.proofs.Common.{◌≡◌, map, take}
use Rattle.std.specs.List.{filter}
use Rattle.decode_jobs.specs.Marks.{is_marked}
use Rattle.decode_jobs.proofs.dep_keys.slots.index_of.Given as goal

abbrev pub invariant-loop-place : goal.invariant-loop-place
invariant-loop-place g l =
    l.left ≡ map (λ slot. g.F.Fingerprint.digest slot.1) (filter (λ slot. is_marked l.marks slot.0) (take l.place l.slots))
