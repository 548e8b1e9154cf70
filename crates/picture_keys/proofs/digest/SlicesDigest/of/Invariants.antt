use Rattle.std.proofs.Common.{◌≡◌, ◌+◌, length, map, take}
use Rattle.std.specs.List.{flat_map}
use Rattle.sha2.specs.Hashers.{Holds256}
use Rattle.annexb.specs.ByteStream.{joined}
use Rattle.picture_keys.specs.SliceBytes.{coded, sized}
use Rattle.picture_keys.proofs.digest.SlicesDigest.of.Given as goal

-- the slices so far were fed and counted
abbrev pub invariant-loop-slice : goal.invariant-loop-slice
invariant-loop-slice l = record {
  fed : Holds256 l.hasher (flat_map sized (map coded (take l.slice-index l.slices)));
  counted : l.hashed ≡ l.fn.hashed + length (joined (take l.slice-index l.slices));
}
