use Rattle.std.proofs.Common.{length, subst, Option, arith}
use Rattle.stream_fold.specs.declared.refold.ResumePoint.{ResumePoint}
use Rattle.stream_fold.specs.StoredStates.{IsResumePoint}
use Rattle.stream_fold.specs.Refolding.{Begins, IsStart}
use Rattle.stream_fold.proofs.Anew.{before_near, if_ok, starts_before, starts_where_resume_point}
use Rattle.stream_fold.proofs.folded.Folded.start_before.Goals as goal

pub new-requires-clause-below : goal.new-requires-clause-below
new-requires-clause-below c =
    let found = rw c.in-Some.is at c.if_between.ensures in
    found.1

pub new-requires-clause-near : goal.new-requires-clause-near
new-requires-clause-near c =
    let within = rw (← c.self.view_is) at c.requires in
    let found = rw c.in-Some.is at c.if_between.ensures in
    let near = before_near c.self.inside.units.items c.self.inside.stored.states c.self.inside.end c.self.invariant.0
    c.args.at c.before-before.result.place c.before-before.result.state.now within c.before-before.ensures in
    omega (arith, found.2, near)

pub returns-in-Some : goal.returns-in-Some
returns-in-Some c =
    let within = rw (← c.self.view_is) at c.requires in
    let found = rw c.in-Some.is at c.if_between.ensures in
    let resume_point : ResumePoint = c.in-Some.resume_point.now in
    let is =
    subst (λ (kept : Option ResumePoint). IsResumePoint c.self.inside.units.items (length c.self.inside.units.items) kept) found.0
    c.self.invariant.1 in
    rw (← c.self.view_is)
    (if_ok (Begins resume_point.place c.before-before.result.place resume_point.state) (IsStart c.args.at c.self.inside.units.items c.self.inside.stored.states)
    c.new.result
    (λ fold begun. starts_where_resume_point c.self.inside.units.items c.self.inside.stored.states c.self.inside.end
    c.self.invariant.0 c.args.at c.before-before.result.place resume_point.place c.before-before.result.state.now resume_point.state fold within
    c.before-before.ensures found.1 found.2 is.1 begun)
    c.new.ensures)

pub returns-in-None : goal.returns-in-None
returns-in-None c =
    let within = rw (← c.self.view_is) at c.requires in
    rw (← c.self.view_is)
    (if_ok (Begins c.before-before.result.place c.before-before.result.place c.before-before.result.state.now)
    (IsStart c.args.at c.self.inside.units.items c.self.inside.stored.states) c.new-in-None.result
    (λ fold begun. starts_before c.self.inside.units.items c.self.inside.stored.states c.self.inside.end
    c.self.invariant.0 c.args.at c.before-before.result.place c.before-before.result.state.now fold within c.before-before.ensures begun)
    c.new-in-None.ensures)
