use Rattle.std.proofs.Common.{◌≡◌, ◌∙◌, [], subst, sym}
use Rattle.stream_edits.specs.Changes.{stream_after}
use Rattle.stream_session.specs.Stored.{CanStand}
use Rattle.stream_session.proofs.Begun.{CanStand-snapshot, IsBegun-begun, IsSound-begun, all_brought}
use Rattle.stream_session.proofs.session.Session.begun.Goals as goal

pub change_stream-requires-clause-after : goal.change_stream-requires-clause-after
change_stream-requires-clause-after g c =
    let origin = c.args.snapshot in
    let units = c.new-units in
    let brings = all_brought units.result origin.stream units.ensures.at units.ensures.rest (units.ensures.units ∙ c.in_ok-shares.ensures.value) in
    rw c.in_ok-ordered.ensures (subst CanStand (sym brings) (CanStand-snapshot origin c.in_ok-shares.ensures.is))

pub invariant_of-result : goal.invariant_of-result
invariant_of-result g c =
    let origin = c.args.snapshot in
    let units = c.new-units in
    let costs = c.in_ok-change_stream.field-0 in
    let brings : stream_after units.result [] ≡ origin.stream =
    all_brought units.result origin.stream units.ensures.at units.ensures.rest (units.ensures.units ∙ c.in_ok-shares.ensures.value) in
    let stream = rw c.in_ok-ordered.ensures at c.in_ok-change_stream.ensures.stream in
    let moves = rw (c.in_ok-ordered.ensures, c.in_ok-store.ensures) at c.in_ok-change_stream.ensures.moves in
    rw (c.new-3.ensures.items, c.ids_given.ensures, stream ∙ brings)
    (IsSound-begun c.args.config.cache origin units.result costs.steps costs.lost_pictures costs.changed c.change_stream.new.store
    c.in_ok-shares.ensures.is brings moves)

pub returns-clause-ok : goal.returns-clause-ok
returns-clause-ok g c =
    let origin = c.args.snapshot in
    let units = c.new-units in
    let costs = c.in_ok-change_stream.field-0 in
    let brings : stream_after units.result [] ≡ origin.stream =
    all_brought units.result origin.stream units.ensures.at units.ensures.rest (units.ensures.units ∙ c.in_ok-shares.ensures.value) in
    let stream = rw c.in_ok-ordered.ensures at c.in_ok-change_stream.ensures.stream in
    let moves = rw (c.in_ok-ordered.ensures, c.in_ok-store.ensures) at c.in_ok-change_stream.ensures.moves in
    rw (c.new-3.ensures.items, c.ids_given.ensures, stream ∙ brings)
    (IsBegun-begun c.args.config.cache origin units.result costs.steps costs.lost_pictures costs.changed c.change_stream.new.store
    c.in_ok-shares.ensures.is brings moves)
