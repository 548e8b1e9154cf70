use Rattle.std.proofs.Common.{◌∙◌, ap, sym, ◌++◌}
use Rattle.decode_jobs.specs.Keys.{named_by}
use Rattle.picture_keys.proofs.Naming.{named_more}
use Rattle.picture_keys.proofs.named.units_named.Goals as goal

pub loop-request-preserved : goal.loop-request-preserved
loop-request-preserved c =
    c.in_ok-add_named.ensures
    ∙ (ap (λ units. units ++ named_by c.request-item.result) c.loop-request.invariant
    ∙ sym (named_more c.args.requests.now c.loop-request.request-index c.request-item.result c.loop-request-test.true
    c.request-item.is))
