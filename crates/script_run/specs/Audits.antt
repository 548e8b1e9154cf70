-- The audit of a script, and what it writes (docs/OUTPUT.md).
use Rattle.std.specs.Prelude.{◌≡◌, ◌⊎◌, ℕ, List, [], false, Option, None, IfSome, Result}
use Rattle.std.specs.Borrow.{Bor}
use Rattle.std.specs.Io.KnownBytes.{Appends, Keeps}
use Rattle.console_io.specs.Chunks.{AppendsFront}
use Rattle.console_io.specs.Inputs.{Files}
use Rattle.console_io.specs.Messages.{Tells}
use Rattle.console_io.specs.declared.chunks.PrintFault.{PrintFault}
use Rattle.decode_pool.specs.declared.seat.Seat.{Seat}
use Rattle.script_run.specs.Messages.{run_fault_text}
use Rattle.script_run.specs.declared.run_fault.RunFault.{RunFault}
use Rattle.script_run.specs.declared.run_fault.RunFault.TheVariants.{Unread, Unwritten}
use Rattle.script_run.specs.SharedRunning.{WritesScriptTo}
use Rattle.script_run.specs.SharedStops.{StopsText}
use Rattle.script_run.specs.Verdicts.{IsVerdict, verdict_line}
use Rattle.script_run.specs.declared.shared.audit.Verdict.{Verdict}
use Rattle.script_run.specs.declared.shared.audit.Verdict.TheVariants.{Agreed, Disagrees}

-- a desk's only seat ran the script of this text, and this is what the audit of its book comes to;
-- what answers its lines went nowhere
abbrev pub IsAudited : Files → List ℕ → Verdict → Type 0
IsAudited files text verdict =
    (last : Seat) × WritesScriptTo files text false last None None × IsVerdict last verdict

-- the line of what the audit comes to was written
abbrev pub WritesVerdict : Files → List ℕ → Verdict → Option (List ℕ) → Option (List ℕ) → Type 0
WritesVerdict files text verdict old new = IsAudited files text verdict × Appends old new (verdict_line verdict)

-- the line was written that all receipts agree
abbrev pub WritesAgreed : Files → List ℕ → Option (List ℕ) → Option (List ℕ) → Type 0
WritesAgreed files text old new =
    (edits : ℕ) × (shows : ℕ) × WritesVerdict files text (Agreed edits shows) old new

-- the line was written that one doesn't
abbrev pub WritesDisagrees : Files → List ℕ → Option (List ℕ) → Option (List ℕ) → Type 0
WritesDisagrees files text old new =
    (seat : ℕ) × (number : ℕ) × WritesVerdict files text (Disagrees seat number) old new

-- no audit comes of a text: its run ends before it does, or memory runs out
abbrev pub StopsAudit : Files → List ℕ → RunFault → Type 0
StopsAudit files text fault = StopsText files text false fault ⊥ None None

-- the audit of a text ends by this fault: none comes of it and nothing was written, or the writer
-- took a prefix of the line and then refused
abbrev pub EndsAudit : Files → List ℕ → RunFault → Type 0 → Option (List ℕ) → Option (List ℕ) → Type 0
EndsAudit files text fault refused old new =
    (StopsAudit files text fault × Keeps old new)
    ⊎ ((fault ≡ Unwritten) × refused × ((verdict : Verdict) × IsAudited files text verdict
    × AppendsFront old new (verdict_line verdict)))

-- the audit of the script of this name and text ends by this fault: it can't be read, or its text
-- isn't audited
abbrev pub EndsAuditBy : Files → List ℕ → List ℕ → RunFault → Type 0 → Option (List ℕ) → Option (List ℕ) → Type 0
EndsAuditBy files name text fault refused old new =
    ((lent : Bor (List ℕ)) × (lent.now ≡ name) × (fault ≡ Unread lent) × Keeps old new)
    ⊎ EndsAudit files text fault refused old new

-- an audit failed, of a text that may be known: the line was written that a receipt doesn't agree,
-- and nothing was told; or it ended by a fault, which was told
abbrev pub FailsAudit : {T : Type 0} → Files → List ℕ → Option (List ℕ) → Result T PrintFault
    → Type 0 → Option (List ℕ) → Option (List ℕ) → Type 0 → Option (List ℕ) → Option (List ℕ) → Type 0
FailsAudit files name known told refused old new mute had has =
    (IfSome known (λ text. WritesDisagrees files text old new) × Tells told mute had has [])
    ⊎ ((fault : RunFault) × IfSome known (λ text. EndsAuditBy files name text fault refused old new)
    × Tells told mute had has (run_fault_text fault))
