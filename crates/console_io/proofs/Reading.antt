-- What a reader has left, after reads that gave nothing.
use Rattle.std.proofs.Common.{ℕ, List, Option, Some, None, sym, ◌∙◌}
use Rattle.std.specs.Io.KnownBytes.{Consumes, Keeps}

-- what a read gives after them
pub consumed-after : (a b c : Option (List ℕ)) (bytes : List ℕ) → Keeps a b → Consumes b c bytes → Consumes a c bytes
consumed-after None b c bytes keeps consumes = tt
consumed-after (Some xs) None c bytes keeps consumes = absurd keeps
consumed-after (Some xs) (Some ys) None bytes keeps consumes = absurd consumes
consumed-after (Some xs) (Some ys) (Some zs) bytes keeps consumes = sym keeps ∙ consumes
