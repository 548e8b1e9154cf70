use Rattle.draw_run.proofs.Inserted.{held-of}
use Rattle.draw_run.proofs.edited.held.Goals as goal

pub returns-clause-ok : goal.returns-clause-ok
returns-clause-ok g c =
    held-of c.args.text.now c.in_ok-session.session c.settle.new.session c.in_ok-session.ensures.ok c.in_ok-settle.ensures.keeps
    c.in_ok-settle.ensures.held
