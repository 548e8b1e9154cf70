use Rattle.std.proofs.Common.{◌≡◌, take}
use Rattle.std.specs.List.{flat_map}
use Rattle.frame_requests.specs.FrameBytes.{bytes_of}
use Rattle.frame_requests.proofs.joining.joined.Given as goal

-- the bytes of the slices so far
abbrev pub invariant-loop-slice : goal.invariant-loop-slice
invariant-loop-slice l = l.bytes.items ≡ flat_map bytes_of (take l.slice-index l.slices)
