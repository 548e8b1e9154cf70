use Rattle.stream_mending.proofs.Steps.{none_behind, none_came}
use Rattle.std.proofs.Common.{[]}
use Rattle.stream_mending.proofs.mender.mend.Goals as goal

pub returns-clause-bytes : goal.returns-clause-bytes
returns-clause-bytes c =
    let text = c.args.text.now in
    let begun = none_behind text [] text [] c.new-mender.result (c.new-mender.ensures text) in
    c.finish.ensures.bytes text [] [] (none_came text [] c.in_ok-rest.rest.now [] _ (c.in_ok-rest.ensures.taken text [] [] [] begun))

pub returns-clause-told : goal.returns-clause-told
returns-clause-told c =
    let text = c.args.text.now in
    let begun = none_behind text [] text [] c.new-mender.result (c.new-mender.ensures text) in
    c.finish.ensures.told text [] [] (none_came text [] c.in_ok-rest.rest.now [] _ (c.in_ok-rest.ensures.taken text [] [] [] begun))
