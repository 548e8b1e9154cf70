use Rattle.std.proofs.Common.{◌≡◌, ◌-◌, ◌<◌, ℕ, List}
use Rattle.mend_run.specs.Runs.{AreLeft}
use Rattle.mend_run.proofs.input.MendInput.read_more.Given as goal

abbrev pub invariant-loop-more : goal.invariant-loop-more
invariant-loop-more g l = record {
  left : (left : List ℕ) → AreLeft l.initial.held.items (g.R.Read.remaining l.initial.reader) left
      → AreLeft l.held.items (g.R.Read.remaining l.reader) left;
  count : l.self.count ≡ l.fn.self.count;
  due : 0 < l.due;
}

abbrev pub decreases-loop-more : goal.decreases-loop-more
decreases-loop-more g l = l.due - l.more
