use Rattle.std.proofs.lemmas.Result.{IfOk-weaker}
use Rattle.stream_svg.specs.declared.unit.EditMark.{EditMark}
use Rattle.draw_run.specs.Marks.{IsMarkOf}
use Rattle.draw_run.proofs.shown.shown_unit.Goals as goal

pub returns : goal.returns
returns c =
    let mark : EditMark = record { altered = c.is_altered.result; picture = c.state_of.result } in
    let marked : IsMarkOf c.args.session.now c.args.id mark =
    record { altered = c.is_altered.ensures; picture = c.state_of.ensures } in
    IfOk-weaker c.shown_by.result _ _
    (λ shown by. record {
      outcome = c.in-Ok-Ok.outcome.now;
      position = c.in-Ok-Ok.position;
      outcome_is = rw c.in-Ok-Ok.is-0 at c.outcome.ensures;
      position_is = rw c.in-Ok-Ok.is-1 at c.position.ensures;
      mark = mark;
      marked = marked;
      shown = by;
    })
    c.shown_by.ensures
