use Rattle.std.proofs.Common.{◌≡◌, drop}
use Rattle.serde_json.specs.View.{items_view}
use Rattle.serve_requests.specs.Calls.{entry_of}
use Rattle.serve_requests.specs.Fields.{all_of, prefixed}
use Rattle.serve_requests.proofs.edits.all_entries.Given as goal

abbrev pub invariant-loop-value : goal.invariant-loop-value
invariant-loop-value l =
    all_of entry_of (items_view l.values) ≡ prefixed l.edits.items (all_of entry_of (items_view (drop l.value-index l.values)))
