-- How an input ends that isn't read.
use Rattle.std.proofs.Common.{ℕ, List, Option, Some, None, IfSome}
use Rattle.std.proofs.KnownBytes.{Keeps-refl}
use Rattle.std.specs.Io.KnownBytes.{Keeps}
use Rattle.std.specs.Prelude.{Result}
use Rattle.console_io.specs.Messages.{Tells, input_fault_text}
use Rattle.console_io.specs.declared.chunks.PrintFault.{PrintFault}
use Rattle.console_io.specs.declared.input.InputFault.{InputFault}
use Rattle.unit_printing.specs.declared.json.json_line.JsonLine.{JsonLine}
use Rattle.unit_printing.specs.Ends.{FailsJson, unread}

kept : (text : Option (List ℕ)) (old : Option (List ℕ)) → IfSome text (λ bytes. Keeps old old)
kept None old = tt
kept (Some bytes) old = Keeps-refl old

-- nothing was written
pub ends-unread : {T : Type 0} (says : JsonLine → List ℕ → Type 0) (text : Option (List ℕ)) (name : List ℕ) (told : Result T PrintFault)
    (refuses : Type 0) (old : Option (List ℕ)) (mute : Type 0) (had has : Option (List ℕ)) (fault : InputFault)
    → Tells told mute had has (input_fault_text name fault) → FailsJson says text name told refuses old old mute had has
ends-unread says text name told refuses old mute had has fault tells = (unread fault, kept text old, tells)
