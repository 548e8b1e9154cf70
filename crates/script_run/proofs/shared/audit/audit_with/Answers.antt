use Rattle.std.proofs.Common.{◌∙◌, inl, inr}
use Rattle.std.proofs.KnownBytes.{Appends-nil}
use Rattle.std.proofs.lemmas.Option.{IfSome_then}
use Rattle.script_run.specs.RunFaults.{fault_of_input}
use Rattle.script_run.proofs.SharedTold.{ends-unread-known}
use Rattle.script_run.proofs.shared.audit.audit_with.Goals as goal

pub returns-in-Ok-Agreed-clause-agreed : goal.returns-in-Ok-Agreed-clause-agreed
returns-in-Ok-Agreed-clause-agreed g c success =
    IfSome_then (g.I.Read.remaining c.args.script.text) c.in-Ok.ensures
    (λ bytes same. (
      c.in-Ok-Agreed.field-0-0,
      c.in-Ok-Agreed.field-0-1,
      rw (c.as_slice.ensures.value ∙ same, c.in-Ok-Agreed.field-0-is) at c.in-Ok-Agreed.ensures.ok,
    ))

pub returns-in-Ok-Disagrees-clause-fails : goal.returns-in-Ok-Disagrees-clause-fails
returns-in-Ok-Disagrees-clause-fails g c failure =
    let written = IfSome_then (g.I.Read.remaining c.args.script.text) c.in-Ok.ensures
    (λ bytes same. (
      c.in-Ok-Disagrees.field-0-0,
      c.in-Ok-Disagrees.field-0-1,
      rw (c.as_slice.ensures.value ∙ same, c.in-Ok-Disagrees.field-0-is) at c.in-Ok-Disagrees.ensures.ok,
    )) in
    inl (written, rw c.failed-in-Ok-Disagrees.ensures (Appends-nil (g.E.Write.contents c.args.console.now.errors)))

pub returns-in-Err-clause-fails : goal.returns-in-Err-clause-fails
returns-in-Err-clause-fails g c failure =
    let name = c.args.options.name in
    let ends = ends-unread-known (g.S.Source.file c.args.script.files) name (g.I.Read.remaining c.args.script.text)
    c.in-Err.fault (g.W.Sink.refuses c.args.console.now.output) (g.W.Write.contents c.args.console.now.output) in
    inr (fault_of_input name c.in-Err.fault, ends, rw c.failed.ensures (rw c.of_input-fault.ensures at c.say_run_fault.ensures))

pub returns-clause-fails : goal.returns-clause-fails
returns-clause-fails g c failure =
    let ends = IfSome_then (g.I.Read.remaining c.args.script.text) c.in-Ok.ensures
    (λ bytes same. inr (rw (c.as_slice.ensures.value ∙ same) at c.in-Err-audit_text.ensures.stops)) in
    inr (c.in-Err-audit_text.fault, ends, rw c.failed-in-Err-audit_text.ensures c.say_run_fault-in-Err-audit_text.ensures)
