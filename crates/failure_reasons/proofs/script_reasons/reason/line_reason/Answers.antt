use Rattle.std.proofs.Common.{sym, ◌∙◌}
use Rattle.failure_reasons.proofs.Texts.{blank-line, no-text, worded-line}
use Rattle.failure_reasons.proofs.script_reasons.reason.line_reason.Goals as goal

pub returns-in-Ok : goal.returns-in-Ok
returns-in-Ok c =
    blank-line c.args.line.now c.in-Ok.ensures.cases.1 (sym c.has_blank.ensures ∙ c.if-has_blank.true)

pub returns-in-Ok-2 : goal.returns-in-Ok-2
returns-in-Ok-2 c =
    let same = c.in-Ok.ensures.cases.0 in
    (rw same at c.words_reason.ensures)
    ∙ worded-line c.args.line.now c.in-Ok.ensures.cases.1 (sym c.has_blank.ensures ∙ c.if-has_blank.false)

pub returns-in-Err : goal.returns-in-Err
returns-in-Err c = no-text c.args.line.now c.in-Err.ensures.cases.0
