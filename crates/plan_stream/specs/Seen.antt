-- What bytes begin with, which two of them are enough to see.
use Rattle.std.specs.Prelude.{◌≡◌, ℕ, List, ◌++◌}
use Rattle.annexb.specs.NalUnit.{is_slice}
use Rattle.annexb.specs.AccessUnits.{begins_access_unit}

-- the NAL unit that the bytes begin with is as it's seen in them, with more after them
pub record IsSeen (nal more : List ℕ) : Type 0 where
  pub slice : is_slice (nal ++ more) ≡ is_slice nal
  pub begins : begins_access_unit (nal ++ more) ≡ begins_access_unit nal
