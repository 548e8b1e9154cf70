use Rattle.std.proofs.Common.{inr, refl}
use Rattle.script_run.proofs.loading.load.Goals as goal

pub returns-in-Err-Refused-clause-ok : goal.returns-in-Err-Refused-clause-ok
returns-in-Err-Refused-clause-ok g c =
    let read = rw c.in-Err-Refused.field-0-is at c.in-Err-Refused.ensures.read in
    let refused = rw (c.saturating_sub-capacity.ensures, c.last.ensures, c.session.ensures) at read in
    (c.in_ok-text.text, c.in_ok-text.ensures.ok, inr (_, refused, c.in_ok-to_string-in-Err-Refused.ensures.ok, refl))
