use Rattle.std.proofs.Common.{refl}
use Rattle.serde_json.specs.View.{view}
use Rattle.serve_run.proofs.Batches.{request_of}
use Rattle.serve_run.proofs.serving.serve_one.Goals as goal

pub returns : goal.returns
returns g c =
    let same = request_of (view c.args.value.now) c.of-message.result c.of-message.ensures in
    (c.serve-served.result, rw same at c.serve-served.ensures.serves, refl)
