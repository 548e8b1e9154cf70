use Rattle.plan_stream.proofs.PlanEnds.{ends-print, ends-refusal, planned, refused}
use Rattle.plan_stream.specs.Folds.{IsFoldOf}
use Rattle.plan_stream.specs.Streams.{numbered_from}
use Rattle.plan_stream.specs.StreamText.{stream_text}
use Rattle.unit_printing.specs.Refusals.{refusal_text}
use Rattle.plan_stream.proofs.plan.print_gathered.Goals as goal

pub returns-in-Ok-print_all-clause-planned : goal.returns-in-Ok-print_all-clause-planned
returns-in-Ok-print_all-clause-planned g c = λ text is.
    let of = c.in-Ok.ensures.ok c.in-Ok.fold text is in
    (stream_text (numbered_from 1 of.parts), planned IsFoldOf text c.in-Ok.fold of, c.in-Ok-print_all.ensures.ok of.parts of.folded)

pub returns-in-Ok-clause-ends : goal.returns-in-Ok-clause-ends
returns-in-Ok-clause-ends g c = λ text is.
    let of = c.in-Ok.ensures.ok c.in-Ok.fold text is in
    rw c.from.ensures
    (ends-print text (stream_text (numbered_from 1 of.parts)) _ _ _ c.in-Err-print_all.fault (planned IsFoldOf text c.in-Ok.fold of)
    (c.in-Err-print_all.ensures.written of.parts of.folded) c.in-Err-print_all.ensures.refused)

pub returns-in-Ok-print_refusal-clause-ends : goal.returns-in-Ok-print_refusal-clause-ends
returns-in-Ok-print_refusal-clause-ends g c = λ text is.
    (c.in-Err.ensures.err c.args.gathering.fold text is, c.in-Ok-print_refusal.ensures.ok)

pub returns-clause-ends : goal.returns-clause-ends
returns-clause-ends g c = λ text is.
    let refusal = c.in-Err.refusal in
    rw c.from-in-Err-print_refusal.ensures
    (ends-refusal text (refusal_text refusal) _ _ _ c.in-Err-print_refusal.fault (refused text refusal (c.in-Err.ensures.err c.args.gathering.fold text is))
    c.in-Err-print_refusal.ensures.written c.in-Err-print_refusal.ensures.refused c.in-Err-print_refusal.ensures.memory)
