use Rattle.std.proofs.Common.{◌≡◌, ◌++◌, take}
use Rattle.stand_in_device.proofs.device.Device.place_all.Given as goal

-- the frames so far were added
abbrev pub invariant-loop-reference : goal.invariant-loop-reference
invariant-loop-reference l = l.self ≡ l.initial.self ++ take l.reference-index l.fn.references
