use Rattle.std.proofs.Common.{length}
use Rattle.stand_in_device.proofs.decoding.Decoding.+decode_slices.Given as goal

abbrev pub decreases-decode_slices : goal.decreases-decode_slices
decreases-decode_slices l = length l.slices.now
