-- How a script that isn't read stops.
use Rattle.std.proofs.Common.{ℕ, Bool, List, Option, refl, inl, inr}
use Rattle.std.specs.Prelude.{Result, Ok, Err, IfErr, IsErrAnd}
use Rattle.std.proofs.KnownBytes.{Keeps-refl}
use Rattle.std.specs.Borrow.{Bor}
use Rattle.console_io.specs.Inputs.{Files}
use Rattle.console_io.specs.declared.input.InputFault.{InputFault}
use Rattle.console_io.specs.declared.input.InputFault.TheVariants as input
use Rattle.script_run.specs.RunFaults.{fault_of_input}
use Rattle.script_run.specs.Stops.{StopsBy}
use Rattle.unit_printing.specs.declared.json.json_line.JsonLine.{JsonLine}

-- it can't be read, or there is no memory for it
pub stops-unread : (says : JsonLine → List ℕ → Type 0) (files : Files) (name : Bor (List ℕ)) (text : List ℕ) (capacity : ℕ) (hex : Bool) (fault : InputFault) (R : Type 0)
    (a : Option (List ℕ)) → StopsBy says files name.now text capacity hex (fault_of_input name fault) R a a
stops-unread says files name text capacity hex input.Unread R a = inl (name, refl, refl, Keeps-refl a)
stops-unread says files name text capacity hex input.Memory R a = inr (inl (refl, Keeps-refl a))

-- an error by `?` is what the error below is turned into
pub err-all : {T E : Type 0} (result : Result T E) (from : E → Type 0) {P : E → Type 0} → IsErrAnd result from
    → ((fault : E) → from fault → P fault) → IfErr result P
err-all (Ok x) from is all = absurd is
err-all (Err fault) from is all = all fault is
