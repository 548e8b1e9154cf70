use Rattle.std.proofs.Common.{◌≡◌, ◌<◌, ◌^◌, take}
use Rattle.frame_requests.specs.FrameBytes.{frame_size}
use Rattle.frame_requests.proofs.joining.frame_size.Given as goal

-- how many bytes the slices so far have
abbrev pub invariant-loop-slice : goal.invariant-loop-slice
invariant-loop-slice l = record { so_far : l.size ≡ frame_size (take l.slice-index l.slices); fits : l.size < 2 ^ 64 }
