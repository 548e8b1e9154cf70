use Rattle.std.specs.Prelude.{◌≡◌}
use Rattle.unit_printing.specs.Seen.{ids_from}
use Rattle.unit_printing.proofs.json.doubts.ids.Given as goal

-- the ids so far
abbrev pub invariant-loop-place : goal.invariant-loop-place
invariant-loop-place l = l.ids.items ≡ ids_from 1 l.place
