use Rattle.std.proofs.Common.{◌≡◌, ◌-◌, [], length, take, drop, subst, arith}
use Rattle.std.proofs.lemmas.List.{append-nil}
use Rattle.request_core.specs.Agreement.{Stream}
use Rattle.stream_edits.specs.Changes.{at_of}
use Rattle.stream_fold.specs.Refolding.{GoesOn}
use Rattle.stream_fold.proofs.Anew.{made_anew, state_in_front}
use Rattle.stream_fold.proofs.Changed.{at_inside}
use Rattle.stream_fold.proofs.Going.{GoesOn-append}
use Rattle.stream_fold.proofs.InFront.{are_kept, as_many}
use Rattle.stream_fold.proofs.folded.Folded.refold.Goals as goal

pub slice_bounds-share-end : goal.slice_bounds-share-end
slice_bounds-share-end c =
    let stream = c.self.inside.units.items in
    let inside = rw (← c.self.view_is) at c.requires.inside in
    let outcomes = rw (← c.self.view_is) at c.requires.outcomes in
    let long : length c.args.outcomes.now ≡ length stream = as_many stream c.args.outcomes.now outcomes in
    rw c.at-at.ensures (omega (arith, long, at_inside c.args.change.now stream inside))

pub share-requires : goal.share-requires
share-requires c =
    let stream = c.self.inside.units.items in
    let inside = rw (← c.self.view_is) at c.requires.inside in
    let start = rw (← c.self.view_is, c.at-at.ensures) at c.in_ok-fold.ensures in
    let before = rw (c.deref.ensures.value, c.at-at.ensures) at c.in_ok-go_over.ensures in
    let outcomes = rw (← c.self.view_is) at c.requires.outcomes in
    rw c.at-at.ensures
    (are_kept stream c.args.outcomes.now outcomes (at_of c.args.change.now)
    (at_inside c.args.change.now stream inside) c.in_ok-fold.fold c.go_over.new.self start.before start.refolded before)

pub resume_point_at-requires : goal.resume_point_at-requires
resume_point_at-requires c =
    let stream = c.self.inside.units.items in
    let start = rw (← c.self.view_is, c.at-at.ensures) at c.in_ok-fold.ensures in
    let before = rw (c.deref.ensures.value, c.at-at.ensures) at c.in_ok-go_over.ensures in
    let front : Stream = take (at_of c.args.change.now - c.in_ok-fold.fold.from) (drop c.in_ok-fold.fold.from stream) in
    let shared : GoesOn c.in_ok-fold.fold front c.share.new.self =
    subst (λ (units : Stream). GoesOn c.in_ok-fold.fold units c.share.new.self) (append-nil front)
    (GoesOn-append c.in_ok-fold.fold c.go_over.new.self c.share.new.self front [] before c.in_ok-share.ensures) in
    rw (← c.self.view_is, c.at-at.ensures)
    (state_in_front stream c.self.inside.stored.states (at_of c.args.change.now) c.in_ok-fold.fold c.share.new.self start shared)

pub returns-clause-made : goal.returns-clause-made
returns-clause-made c =
    let stream = c.self.inside.units.items in
    let inside = rw (← c.self.view_is) at c.requires.inside in
    let start = rw (← c.self.view_is, c.at-at.ensures) at c.in_ok-fold.ensures in
    let before = rw (c.deref.ensures.value, c.at-at.ensures) at c.in_ok-go_over.ensures in
    let front : Stream = take (at_of c.args.change.now - c.in_ok-fold.fold.from) (drop c.in_ok-fold.fold.from stream) in
    let shared : GoesOn c.in_ok-fold.fold front c.share.new.self =
    subst (λ (units : Stream). GoesOn c.in_ok-fold.fold units c.share.new.self) (append-nil front)
    (GoesOn-append c.in_ok-fold.fold c.go_over.new.self c.share.new.self front [] before c.in_ok-share.ensures) in
    let behind = rw (← c.self.view_is, c.rest_from.ensures) at c.in_ok-met.ensures in
    let changed = rw (c.units.ensures) at c.in_ok-go_over-2.ensures in
    rw (← c.self.view_is)
    (made_anew c.args.change.now stream c.self.inside.stored.states c.self.inside.end c.self.invariant.0
    inside c.in_ok-fold.fold c.share.new.self c.go_over-2.new.self c.catch_up.new.fold c.in_ok-met.met start shared
    changed behind)
