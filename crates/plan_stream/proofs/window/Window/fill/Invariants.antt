use Rattle.std.proofs.Common.{◌≡◌, ◌-◌, ℕ, List}
use Rattle.std.specs.Prelude.{vec_len}
use Rattle.plan_stream.specs.Windows.{HasLeft, IsWalkedAlong}
use Rattle.plan_stream.proofs.Turns.{reads_left}
use Rattle.plan_stream.proofs.window.Window.fill.Given as goal

abbrev pub invariant-loop-self : goal.invariant-loop-self
invariant-loop-self g l = record {
  none : l.self.start ≡ l.self.cut;
  cut : l.self.cut ≡ l.fn.self.cut;
  len : vec_len l.self.buffer ≡ vec_len l.fn.self.buffer;
  walked : IsWalkedAlong l.self;
  left : (left : List ℕ) → HasLeft l.fn.self (g.R.Read.remaining l.fn.reader) left → HasLeft l.self (g.R.Read.remaining l.reader) left;
}

abbrev pub decreases-loop-self : goal.decreases-loop-self
decreases-loop-self g l = reads_left l.self.is_over (vec_len l.self.buffer - l.self.end)
