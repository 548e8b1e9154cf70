use Rattle.std.proofs.Common.{◌≡◌, take}
use Rattle.stream_edits.proofs.draft.shares_of.Given as goal

-- the units so far
abbrev pub invariant-loop-unit : goal.invariant-loop-unit
invariant-loop-unit l = l.shares.items ≡ take l.unit-index l.units
