-- NAL units with their start codes (ITU-T H.264, B.1.1).
use Rattle.std.specs.Prelude.{◌≡◌, ℕ, List, ◌++◌, drop, replicate}
use Rattle.annexb.specs.NalUnit.{IsUnit}
use Rattle.annexb.specs.ByteStream.{start_code, AreUnits}

-- the bytes are a start code and a NAL unit
pub record IsCoded (bytes : List ℕ) : Type 0 where
  pub code : bytes ≡ start_code ++ drop 3 bytes
  pub unit : IsUnit (drop 3 bytes)

-- the text is zeros or none, and then the NAL units, if there are any
pub record HasRest (text : List ℕ) (units : List (List ℕ)) : Type 0 where
  pub zeros : ℕ
  pub rest : List ℕ
  pub text_is : text ≡ replicate zeros 0 ++ rest
  pub rest_is : AreUnits rest units
