use Rattle.std.proofs.Common.{refl}
use Rattle.plan_stream.proofs.Walks.{known-shown}
use Rattle.plan_stream.proofs.Ranges.{HasLeft-same, Shows-front}
use Rattle.plan_stream.proofs.window.Window.next_split.Goals as goal

pub returns-in-Some-clause-shown : goal.returns-in-Some-clause-shown
returns-in-Some-clause-shown g c = λ left has.
    let old = c.front_len.new.self in
    let here = HasLeft-same c.loop-len.self old _ left c.front_len.ensures.held c.front_len.ensures.over (c.loop-len.invariant.left left has) in
    Shows-front old c.show.new.self _ left c.in-Some.len _ here c.show.ensures.parts c.show.ensures.len c.show.ensures.over c.in-Some.ensures.end.found refl

pub returns-in-Some-clause-known : goal.returns-in-Some-clause-known
returns-in-Some-clause-known g c =
    let old = c.front_len.new.self in
    rw c.show.ensures.walk
    (known-shown _ _ _ old.walk.places.items c.in-Some.len c.show.ensures.parts c.show.ensures.len c.in-Some.ensures.end.known)
