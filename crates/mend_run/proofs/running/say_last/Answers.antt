use Rattle.mend_run.proofs.Listening.{told-then}
use Rattle.mend_run.proofs.running.say_last.Goals as goal

pub returns : goal.returns
returns g c = λ heard said tells.
    told-then heard (g.E.Write.contents c.args.errors.now) _ said _ _ c.say_mend_fault.result
    (rw c.in_ok-told.was at tells) c.say_mend_fault.ensures
