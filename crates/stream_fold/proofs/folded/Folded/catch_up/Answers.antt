use Rattle.std.proofs.Common.{◌≡◌, ◌<◌, ◌≤◌, length, ap, arith}
use Rattle.stream_fold.specs.StoredStates.{FoldedValue}
use Rattle.stream_fold.proofs.Anew.{caught_up, catches_more, not_both}
use Rattle.stream_fold.proofs.folded.Folded.catch_up.Goals as goal

pub returns-then-branch : goal.returns-then-branch
returns-then-branch c =
    let long : length c.self.inside.units.items ≡ length c.args.self.now.stream = ap (λ (f : FoldedValue). length f.stream) c.self.view_is in
    let le : c.args.from ≤ c.loop-at.at = omega (arith, c.loop-at.auto.at) in
    let inside : c.loop-at.at < length c.args.self.now.stream = omega (arith, c.loop-at-test.true, c.len-at-end.ensures, c.self.inside.units.ok.0, long) in
    caught_up c.args.self.now.stream c.args.self.now.stored.states c.args.from c.loop-at.at c.args.fold.now c.loop-at.fold c.go_on_at.new.fold
    le inside c.loop-at.invariant c.in_ok-go_on_at.ensures.on (c.in_ok-go_on_at.ensures.met.0 c.if-branch.true)

pub loop-at-preserved : goal.loop-at-preserved
loop-at-preserved c =
    let long : length c.self.inside.units.items ≡ length c.args.self.now.stream = ap (λ (f : FoldedValue). length f.stream) c.self.view_is in
    let le : c.args.from ≤ c.loop-at.at = omega (arith, c.loop-at.auto.at) in
    let inside : c.loop-at.at < length c.args.self.now.stream = omega (arith, c.loop-at-test.true, c.len-at-end.ensures, c.self.inside.units.ok.0, long) in
    catches_more c.args.self.now.stream c.args.self.now.stored.states c.args.from c.loop-at.at c.args.fold.now c.loop-at.fold c.go_on_at.new.fold
    le inside c.loop-at.invariant c.in_ok-go_on_at.ensures.on
    (λ stored. not_both _ (c.in_ok-go_on_at.ensures.met.1 stored) c.if-branch.false)
