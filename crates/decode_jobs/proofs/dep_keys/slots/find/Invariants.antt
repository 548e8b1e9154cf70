use Rattle.std.proofs.Common.{suc}
use Rattle.std.specs.Prelude.{Option, Some, None, ℕ}
use Rattle.decode_jobs.specs.Built.{IsSearched}
use Rattle.decode_jobs.proofs.dep_keys.slots.find.Given as goal

abbrev pub invariant-loop-candidate : goal.invariant-loop-candidate
invariant-loop-candidate g l = IsSearched l.slots l.index l.fingerprint l.node l.candidate

abbrev left : Option ℕ → ℕ
left None = 0
left (Some place) = suc place

abbrev pub decreases-loop-candidate : goal.decreases-loop-candidate
decreases-loop-candidate g l = left l.candidate
