use Rattle.serve_calls.proofs.UnitFlags.{tells_one}
use Rattle.serve_calls.proofs.wanting.WantedNow.add.Goals as goal

pub returns : goal.returns
returns c = tells_one c.args.self.now _ (c.args.number, c.args.shown) _ _ _
    c.in_ok-picked_if_ready.ensures c.number_if_not_now.ensures c.picture_of.ensures
    c.in_ok-push_some.ensures c.in_ok-push_some-2.ensures c.in_ok-push.ensures.items
