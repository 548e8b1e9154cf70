-- The bytes of a picture's slices, and their digest.
use Rattle.std.specs.Prelude.{ℕ, List, ◌++◌, length}
use Rattle.std.specs.List.{flat_map}
use Rattle.std.specs.Int.{w64, to_le_bytes}
use Rattle.sha2.specs.Sha256.{sha256}
use Rattle.annexb.specs.ByteStream.{start_code}

-- the bytes of a NAL unit from its start code on
abbrev pub coded : List ℕ → List ℕ
coded nal = start_code ++ nal

-- bytes after their number
unfoldable pub sized : List ℕ → List ℕ
sized bytes = to_le_bytes w64 (length bytes) ++ bytes

-- the digest of slices, of which these are the bytes
abbrev pub slices_digest : List (List ℕ) → List ℕ
slices_digest slices = sha256 (flat_map sized slices)
