use Rattle.std.proofs.Common.{◌≡◌, ◌++◌}
use Rattle.std.specs.List.{filter_map}
use Rattle.std.specs.Vec.Iter.{into_iter_items}
use Rattle.edit_script.specs.Words.{texts_of}
use Rattle.failure_reasons.specs.Loads.{session_load}
use Rattle.failure_reasons.proofs.loads.session_loads.Given as goal

abbrev pub invariant-loop-command : goal.invariant-loop-command
invariant-loop-command l =
    texts_of l.names.items ++ filter_map session_load (into_iter_items l.command-iterator)
    ≡ filter_map session_load l.fn.commands.items
