use Rattle.std.proofs.Common.{◌≡◌, ◌-◌, ◌^◌, ℕ, List, length}
use Rattle.plan_stream.specs.Windows.{HasLeft, IsWalkedAlong, held_by}
use Rattle.plan_stream.proofs.Turns.{reads_left}
use Rattle.plan_stream.proofs.window.Window.next_split.Given as goal

abbrev pub invariant-loop-len : goal.invariant-loop-len
invariant-loop-len g l = record {
  none : l.self.start ≡ l.self.cut;
  walked : IsWalkedAlong l.self;
  left : (left : List ℕ) → HasLeft l.fn.self (g.R.Read.remaining l.fn.reader) left → HasLeft l.self (g.R.Read.remaining l.reader) left;
}

abbrev pub decreases-loop-len : goal.decreases-loop-len
decreases-loop-len g l = reads_left l.self.is_over (2 ^ 64 - length (held_by l.self))
