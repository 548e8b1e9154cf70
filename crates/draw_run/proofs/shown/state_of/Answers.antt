use Rattle.draw_run.proofs.Keyless.{absent-key, empty-plan, fault-plan, without-key}
use Rattle.draw_run.proofs.shown.state_of.Goals as goal

pub returns-in-Fault : goal.returns-in-Fault
returns-in-Fault c =
    without-key c.args.session.now.register.stream c.args.id _ (fault-plan _) (rw c.in-Fault.is at c.show.ensures)

pub returns-in-Empty : goal.returns-in-Empty
returns-in-Empty c =
    without-key c.args.session.now.register.stream c.args.id _ empty-plan (rw c.in-Empty.is at c.show.ensures)

pub returns-in-NoSuchUnit : goal.returns-in-NoSuchUnit
returns-in-NoSuchUnit c =
    absent-key c.args.session.now.register.stream c.args.id (rw c.in-NoSuchUnit.is at c.show.ensures)
