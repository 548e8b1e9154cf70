use Rattle.std.proofs.Common.{take, Some}
use Rattle.std.specs.Prelude.{Contains}
use Rattle.c_calls.proofs.keys.is_among.Given as goal

-- none of the numbers so far is it
abbrev pub invariant-loop-number : goal.invariant-loop-number
invariant-loop-number l = Contains (take l.number-index l.numbers) (Some l.key) → ⊥
