-- What one was told who listens, or listens no more.
use Rattle.std.proofs.Common.{◌≡◌, ℕ, List, ◌++◌, true, Option}
use Rattle.std.proofs.KnownBytes.{Appends-trans}
use Rattle.std.specs.Io.KnownBytes.{Appends}
use Rattle.std.specs.Prelude.{Result, Ok, Err, is_ok, IfErr, OnErr, OnOk}
use Rattle.console_io.specs.declared.chunks.PrintFault.{PrintFault}
use Rattle.console_io.specs.Messages.{Tells}
use Rattle.console_io.proofs.Chunked.{front-after}

module _ {T : Type 0} (R : Type 0) (a b : Option (List ℕ)) (bytes : List ℕ) where
  -- one who listens was told all
  pub told-all : (told : Result T PrintFault) → is_ok told ≡ true → Tells told R a b bytes → Appends a b bytes
  told-all (Ok x) listens tells = tells
  told-all (Err it) listens tells = cc

-- and is told more
pub told-then : (a b c : Option (List ℕ)) (bytes more : List ℕ) {U : Type 0} (mute : Type 0) (told : Result U PrintFault)
    → Appends a b bytes → Tells told mute b c more → Tells told mute a c (bytes ++ more)
told-then a b c bytes more mute (Ok x) had tells = Appends-trans a b c bytes more had tells
told-then a b c bytes more mute (Err it) had tells = (tells.0, tells.1, front-after a b c bytes more had tells.2)

-- what holds at success, of two
pub on-both : {T E : Type 0} {A B C : Type 0} (r : Result T E) → (A → B → C) → OnOk r A → OnOk r B → OnOk r C
on-both (Ok x) both a b = both a b
on-both (Err e) both a b = tt

-- and at a fault
pub err-both : {T E : Type 0} {A : Type 0} (r : Result T E) (P Q : E → Type 0) → (A → (fault : E) → P fault → Q fault) → OnErr r A
    → IfErr r P → IfErr r Q
err-both (Ok x) P Q both a b = tt
err-both (Err e) P Q both a b = both a e b
