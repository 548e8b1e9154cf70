-- How a script that isn't read stops.
use Rattle.std.proofs.Common.{ℕ, Bool, List, Option, Some, None, IfSome, refl, inl, inr}
use Rattle.std.proofs.KnownBytes.{Keeps-refl}
use Rattle.std.specs.Borrow.{Bor}
use Rattle.console_io.specs.Inputs.{Files}
use Rattle.console_io.specs.declared.input.InputFault.{InputFault}
use Rattle.console_io.specs.declared.input.InputFault.TheVariants as input
use Rattle.script_run.specs.RunFaults.{fault_of_input}
use Rattle.script_run.specs.Audits.{EndsAuditBy}
use Rattle.script_run.specs.SharedStops.{StopsBy}

-- it can't be read, or there is no memory for it
pub stops-unread : (files : Files) (name : Bor (List ℕ)) (text : List ℕ) (hex : Bool) (fault : InputFault) (R : Type 0)
    (a : Option (List ℕ)) → StopsBy files name.now text hex (fault_of_input name fault) R a a
stops-unread files name text hex input.Unread R a = inl (name, refl, refl, Keeps-refl a)
stops-unread files name text hex input.Memory R a = inr (inl (refl, Keeps-refl a))

-- nor is it audited
pub ends-unread : (files : Files) (name : Bor (List ℕ)) (text : List ℕ) (fault : InputFault) (R : Type 0)
    (a : Option (List ℕ)) → EndsAuditBy files name.now text (fault_of_input name fault) R a a
ends-unread files name text input.Unread R a = inl (name, refl, refl, Keeps-refl a)
ends-unread files name text input.Memory R a = inr (inl (inl (refl, tt), Keeps-refl a))

-- where its text may be known
pub ends-unread-known : (files : Files) (name : Bor (List ℕ)) (known : Option (List ℕ)) (fault : InputFault) (R : Type 0)
    (a : Option (List ℕ)) → IfSome known (λ text. EndsAuditBy files name.now text (fault_of_input name fault) R a a)
ends-unread-known files name None fault R a = tt
ends-unread-known files name (Some text) fault R a = ends-unread files name text fault R a
