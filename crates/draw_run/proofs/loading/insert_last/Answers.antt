use Rattle.draw_run.proofs.Inserted.{loaded-more}
use Rattle.draw_run.proofs.loading.insert_last.Goals as goal

pub returns-in-Ok : goal.returns-in-Ok
returns-in-Ok c = λ parts loaded.
    loaded-more parts c.args.session.now c.edit_read.new.self c.args.unit c.end-place.result c.in-Ok.field-0 loaded c.end-place.ensures.stands
    c.in_ok-insertion.ensures.accepted (rw c.in_ok-insertion.ensures.ok at c.in-Ok.ensures.answers)
