use Rattle.std.proofs.Common.{inl, subst, sym}
use Rattle.std.proofs.KnownBytes.{Keeps-refl}
use Rattle.script_run.proofs.Unread.{err-all}
use Rattle.script_run.specs.Audits.{StopsAudit}
use Rattle.script_run.proofs.shared.audit.audit_text.Goals as goal

pub returns-in_err-verdict-clause-stops : goal.returns-in_err-verdict-clause-stops
returns-in_err-verdict-clause-stops g c =
    err-all c.from_residual.result _ c.from_residual.ensures.1
    (λ fault is. inl (
      subst (StopsAudit (g.S.Source.file c.args.script.files) c.args.script.text.now) (sym is) c.in_err-verdict.ensures.stops,
      Keeps-refl (g.W.Write.contents c.args.writer.now),
    ))
