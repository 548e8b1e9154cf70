-- How a check ends of an input that isn't read.
use Rattle.std.proofs.Common.{ℕ, List, Option, Some, None, IfSome}
use Rattle.std.specs.Prelude.{Result}
use Rattle.console_io.specs.Messages.{Tells, input_fault_text}
use Rattle.console_io.specs.declared.chunks.PrintFault.{PrintFault}
use Rattle.console_io.specs.declared.input.InputFault.{InputFault}
use Rattle.check_report.specs.Ends.{EndsBy, FailsCheck, unread}

-- of its text nothing is said
nothing_said : (text : Option (List ℕ)) (fault : InputFault) (refuses : Type 0) → IfSome text (λ bytes. EndsBy bytes (unread fault) refuses)
nothing_said None fault refuses = tt
nothing_said (Some bytes) fault refuses = record {}

pub ends-unread : {T : Type 0} (text : Option (List ℕ)) (name : List ℕ) (told : Result T PrintFault) (refuses mute : Type 0)
    (had has : Option (List ℕ)) (fault : InputFault)
    → Tells told mute had has (input_fault_text name fault) → FailsCheck text name told refuses mute had has
ends-unread text name told refuses mute had has fault tells = (unread fault, nothing_said text fault refuses, tells)
