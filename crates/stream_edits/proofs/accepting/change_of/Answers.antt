use Rattle.stream_edits.proofs.accepting.change_of.Goals as goal

pub returns-in-Insert-Some-clause-err : goal.returns-in-Insert-Some-clause-err
returns-in-Insert-Some-clause-err c =
    let is = c.in-Insert-Some in
    let accepted = rw (is.is-0, is.is-1) at c.read.invariant in
    rw (← c.read.view_is, is.is-0) (c.insertion.ensures.err is.field-1-0 accepted)
