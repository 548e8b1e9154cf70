-- What stands around the first start code.
use Rattle.std.specs.Prelude.{◌≡◌, ℕ, List, [], ◌∷◌, ◌++◌, Option, None, Some}
use Rattle.annexb.specs.ByteStream.{start_code}
use Rattle.stream_mending.specs.Segments.{cut_of}
use Rattle.stream_mending.specs.declared.pieces.Piece.{Piece}

-- these are the bytes before and after the first start code, whatever bytes may come behind them
pub record IsFirst (bytes : List ℕ) (piece : Piece) : Type 0 where
  pub whole : bytes ≡ piece.bytes.now ++ (start_code ++ piece.rest.now)
  pub cut : (more : List ℕ) → cut_of (bytes ++ more)
      ≡ record { front = piece.bytes.now; rest = (cut_of (piece.rest.now ++ more)).front ∷ (cut_of (piece.rest.now ++ more)).rest }

-- there is no start code, or these are the bytes before and after the first one
abbrev pub IsNext : List ℕ → Option Piece → Type 0
IsNext bytes None = cut_of bytes ≡ record { front = bytes; rest = [] }
IsNext bytes (Some piece) = IsFirst bytes piece
