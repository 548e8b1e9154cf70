use Rattle.std.proofs.Common.{◌≡◌, map, take}
use Rattle.edit_script.specs.Words.{id_of}
use Rattle.serve_calls.proofs.wanting.ids_of.Given as goal

abbrev pub invariant-loop-number : goal.invariant-loop-number
invariant-loop-number l = l.ids.items ≡ map id_of (take l.number-index l.numbers)
