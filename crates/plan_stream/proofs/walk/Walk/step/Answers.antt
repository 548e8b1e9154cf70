-- A boundary ends the access unit, and a unit before it is passed.
use Rattle.std.proofs.Common.{◌≡◌, ◌-◌, true, is_some, not, ap, sym, ◌∙◌, arith}
use Rattle.std.proofs.lemmas.Bool.{false≢true}
use Rattle.plan_stream.proofs.Walks.{walked-at, walked-code, walked-place, end-boundary, end-last, step-on}
use Rattle.plan_stream.proofs.walk.Walk.step.Goals as goal
use Rattle.plan_stream.proofs.walk.Walk.step.Goals.{else-is_none-via-then-is_none+else-not-is_over, else-is_none-via-else-is_none}

pub returns-then-has_boundary-clause-step : goal.returns-then-has_boundary-clause-step
returns-then-has_boundary-clause-step c =
    let bytes = c.args.bytes.now in
    let self = c.args.self.now in
    let walked = walked-at bytes self.places.items self.next self.has_slice c.args.at c.requires.next c.requires.walked in
    let there = rw c.split_at.ensures.back at (sym c.has_boundary.ensures ∙ c.if-has_boundary.true) in
    end-boundary bytes self.places.items c.args.at self.has_slice walked c.args.is_over
    (λ more over. rw c.split_at.ensures.back at (c.is_seen.ensures.seen c.if-not-is_seen.false more over)) there (c.args.at - 3)
    (omega (arith, walked-place bytes self.places.items c.args.at self.has_slice walked))

pub unit_at-requires : goal.unit_at-requires
unit_at-requires c =
    let bytes = c.args.bytes.now in
    let self = c.args.self.now in
    let walked = walked-at bytes self.places.items self.next self.has_slice c.args.at c.requires.next c.requires.walked in
    walked-code bytes self.places.items c.args.at self.has_slice walked

pub returns-in-Some-clause-step : goal.returns-in-Some-clause-step
returns-in-Some-clause-step c =
    let bytes = c.args.bytes.now in
    let self = c.args.self.now in
    let walked = walked-at bytes self.places.items self.next self.has_slice c.args.at c.requires.next c.requires.walked in
    let none = rw c.split_at.ensures.back at (sym c.has_boundary.ensures ∙ c.if-has_boundary.false) in
    rw (c.in-Ok-push.ensures.items, c.is_slice.ensures, c.bytes.ensures.value)
    (step-on bytes self.places.items c.args.at self.has_slice walked c.in-Ok.field-0.nal c.in-Ok.field-0.next c.in-Some.field-0 c.in-Some.is c.in-Ok.ensures.ok none)

pub returns-in-None-clause-step : goal.returns-in-None-clause-step
returns-in-None-clause-step c =
    let bytes = c.args.bytes.now in
    let self = c.args.self.now in
    let walked = walked-at bytes self.places.items self.next self.has_slice c.args.at c.requires.next c.requires.walked in
    let none = rw c.split_at.ensures.back at (sym c.has_boundary.ensures ∙ c.if-has_boundary.false) in
    let over : c.args.is_over ≡ true = elim c.else-is_none.branch [
      | else-is_none-via-then-is_none+else-not-is_over w ↦ w.if-not-is_over.false
      | else-is_none-via-else-is_none w ↦ absurd (false≢true (sym (ap is_some c.in-None.is) ∙ c.is_none.ensures ∙ ap not w.if-is_none.false))
    ] in
    rw (over, c.in-Ok-push.ensures.items, c.bytes.ensures.value)
    (end-last bytes self.places.items c.args.at self.has_slice walked c.in-Ok.field-0.nal (rw c.in-None.is at c.in-Ok.ensures.ok) none)
