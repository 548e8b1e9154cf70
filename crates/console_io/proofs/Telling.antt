-- What became of a message: of one after another, and of one that is cut.
use Rattle.std.proofs.Common.{◌≡◌, ℕ, List, ◌++◌, Option, ◌∙◌}
use Rattle.std.proofs.KnownBytes.{Appends-trans}
use Rattle.std.specs.Io.KnownBytes.{Appends}
use Rattle.std.specs.Prelude.{Result, Ok, Err, IsErrAnd, IsOkUnless, OnErr, OnOk}
use Rattle.console_io.specs.declared.chunks.PrintFault.{PrintFault}
use Rattle.console_io.specs.declared.chunks.PrintFault.TheVariants.{Unwritten}
use Rattle.console_io.specs.Chunks.{AppendsFront}
use Rattle.console_io.specs.Messages.{Tells}
use Rattle.console_io.proofs.Chunked.{front-all, front-after}

-- a front at least was written
pub tells-front : {T : Type 0} (told : Result T PrintFault) (R : Type 0) (a b : Option (List ℕ)) (bytes : List ℕ)
    → Tells told R a b bytes → AppendsFront a b bytes
tells-front (Ok x) R a b bytes tells = front-all a b bytes tells
tells-front (Err fault) R a b bytes tells = tells.2

-- after what is written
pub tells-after : {T : Type 0} (told : Result T PrintFault) (R : Type 0) (a b c : Option (List ℕ)) (bytes more : List ℕ)
    → Appends a b bytes → OnOk told (Appends b c more) → OnErr told (AppendsFront b c more) → OnErr told R
    → IsOkUnless told Unwritten → Tells told R a c (bytes ++ more)
tells-after (Ok x) R a b c bytes more appends all front refused fault = Appends-trans a b c bytes more appends all
tells-after (Err it) R a b c bytes more appends all front refused fault =
    (fault, refused, front-after a b c bytes more appends front)

-- a message is cut
pub tells-cut : {T : Type 0} (told : Result T PrintFault) (it : PrintFault) (R : Type 0) (a b : Option (List ℕ)) (bytes : List ℕ)
    → IsErrAnd told (λ fault. fault ≡ it) → it ≡ Unwritten → R → AppendsFront a b bytes → Tells told R a b bytes
tells-cut (Ok x) it R a b bytes is unwritten refused front = absurd is
tells-cut (Err fault) it R a b bytes is unwritten refused front = (is ∙ unwritten, refused, front)
