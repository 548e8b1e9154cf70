use Rattle.std.proofs.Common.{◌≡◌, ◌++◌, List, ℕ, take}
use Rattle.serve_calls.specs.Journaled.{insertions_from}
use Rattle.serve_calls.proofs.journaled.insertions.Given as goal

-- the insertions so far, and those of any units behind them, are those of all these
abbrev pub invariant-loop-unit : goal.invariant-loop-unit
invariant-loop-unit l =
    (rest : List (List (List ℕ))) → insertions_from l.fn.place l.fn.given (take l.unit-index l.units ++ rest)
    ≡ l.edits.items ++ insertions_from l.next l.last rest
