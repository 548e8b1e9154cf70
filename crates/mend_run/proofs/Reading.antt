-- What a reader has left, after reads.
use Rattle.std.proofs.Common.{◌≡◌, ℕ, List, ◌++◌, Option, Some, None, ap, sym, ◌∙◌, append_assoc}
use Rattle.std.specs.Io.KnownBytes.{Consumes, prepend_known}
use Rattle.console_io.specs.declared.input.InputFault.{InputFault}
use Rattle.console_io.specs.declared.input.InputFault.TheVariants as input
use Rattle.mend_run.specs.Runs.{fault_of_input}
use Rattle.mend_run.specs.declared.running.MendFault.TheVariants.{Unwritten}

-- what was read is held, and what stays is left
pub left-read : (held : List ℕ) (old new : Option (List ℕ)) (more left : List ℕ) → Consumes old new more
    → prepend_known held old ≡ Some left → prepend_known (held ++ more) new ≡ Some left
left-read held None new more left consumes e = absurd (cc)
left-read held (Some xs) None more left consumes e = absurd consumes
left-read held (Some xs) (Some ys) more left consumes e =
    ap Some (append_assoc held more ys ∙ ap (λ l. held ++ l) (sym consumes)) ∙ e

-- a fault of the input isn't the writer's
pub input-other : (it : InputFault) → fault_of_input it ≡ Unwritten → ⊥
input-other input.Unread is = cc
input-other input.Memory is = cc
