use Rattle.std.proofs.Common.{inr, refl}
use Rattle.script_run.proofs.shared.loading.load.Goals as goal

pub returns-in-Err-Refused-clause-ok : goal.returns-in-Err-Refused-clause-ok
returns-in-Err-Refused-clause-ok g c =
    let read = rw c.in-Err-Refused.field-0-is at c.in-Err-Refused.ensures.read in (
      c.in_ok-text.text,
      c.in_ok-text.ensures.ok,
      (
        c.saturating_sub-capacity.result,
        (c.last.result, c.last.ensures, c.saturating_sub-capacity.ensures),
        inr (_, read, c.in_ok-to_string-in-Err-Refused.ensures.ok, refl),
      ),
    )
