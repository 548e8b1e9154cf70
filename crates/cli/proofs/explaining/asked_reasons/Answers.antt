use Rattle.cli.proofs.explaining.asked_reasons.Goals as goal

pub returns-in-Plan : goal.returns-in-Plan
returns-in-Plan g c = rw c.in-Plan.is c.stream_lines.ensures.line

pub returns-in-Draw : goal.returns-in-Draw
returns-in-Draw g c = rw c.in-Draw.is c.stream_lines-in-Draw.ensures.line

pub returns-in-DrawEdited : goal.returns-in-DrawEdited
returns-in-DrawEdited g c = rw c.in-DrawEdited.is c.edited_lines.ensures
