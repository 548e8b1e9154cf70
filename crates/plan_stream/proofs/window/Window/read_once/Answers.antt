use Rattle.std.proofs.lemmas.Bool.{eqb-true}
use Rattle.plan_stream.proofs.Ranges.{HasLeft-read, walked-read}
use Rattle.plan_stream.proofs.window.Window.read_once.Goals as goal

pub returns-clause-left : goal.returns-clause-left
returns-clause-left g c = λ left has.
    let ok = c.in_ok-count.ensures.ok in
    HasLeft-read c.args.self.now _ _ _ ok.0 left ok.1 ok.2 (λ is. c.in_ok-count.ensures.end (eqb-true c.in_ok-count.count 0 is)) has

pub returns-clause-walked : goal.returns-clause-walked
returns-clause-walked g c =
    let ok = c.in_ok-count.ensures.ok in
    walked-read c.args.self.now c.read_some.new.self ok.0 ok.1 c.in_ok-count.ensures.walk c.requires.walked
