use Rattle.std.proofs.Common.{◌≡◌, drop}
use Rattle.serde_json.specs.View.{items_view}
use Rattle.serve_requests.specs.Fields.{all_of, number_of, prefixed}
use Rattle.serve_requests.proofs.fields.all_numbers.Given as goal

abbrev pub invariant-loop-value : goal.invariant-loop-value
invariant-loop-value l =
    all_of number_of (items_view l.values) ≡ prefixed l.numbers.items (all_of number_of (items_view (drop l.value-index l.values)))
