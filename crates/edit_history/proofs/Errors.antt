-- What follows of an error.
use Rattle.std.proofs.Common.{Result, Ok, Err, IfErr}

-- of an error follows what follows of each
pub IfErr-more : {T E : Type 0} (result : Result T E) (P Q : E → Type 0) → ((error : E) → P error → Q error) → IfErr result P → IfErr result Q
IfErr-more (Ok value) P Q more is = tt
IfErr-more (Err error) P Q more is = more error is
