use Rattle.std.proofs.Common.{◌≡◌, ℕ, List, ◌++◌}
use Rattle.std.specs.Vec.Iter.{into_iter_items}
use Rattle.script_run.specs.Running.{WritesRun}
use Rattle.script_run.proofs.run.run_commands.Given as goal

abbrev pub invariant-loop-command : goal.invariant-loop-command
invariant-loop-command g l = record {
  ran : WritesRun g.J.Encoder.says (g.S.Source.file l.fn.interpreter.files) l.fn.interpreter.hex l.fn.interpreter.runner l.yielded l.interpreter.runner
      (g.W.Write.contents l.fn.writer) (g.W.Write.contents l.writer);
  kept : (name : List ℕ) → g.S.Source.file l.interpreter.files name ≡ g.S.Source.file l.fn.interpreter.files name;
  hex : l.interpreter.hex ≡ l.fn.interpreter.hex;
  left : l.fn.commands.items ≡ l.yielded ++ into_iter_items l.command-iterator;
}
