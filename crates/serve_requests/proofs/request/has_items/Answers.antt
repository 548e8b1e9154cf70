use Rattle.std.proofs.Common.{◌∙◌, ◌==◌, List, length, not, ap}
use Rattle.serde_json.specs.View.{view}
use Rattle.serde_json.specs.declared.value.Value.{Value}
use Rattle.serve_requests.proofs.Arrays.{has_some}
use Rattle.serve_requests.proofs.request.has_items.Goals as goal

pub returns-in-Some : goal.returns-in-Some
returns-in-Some c =
    ap not (c.is_empty.ensures ∙ ap (λ (values : List Value). length values == 0) c.as_slice.ensures.value)
    ∙ has_some (view c.args.parameters.now) c.in-Some.items.now.items c.in-Some.ensures
