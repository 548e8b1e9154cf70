use Rattle.std.proofs.Common.{◌∙◌, ◌∷◌, [], ap, append_assoc, string_bytes, subst, sym}
use Rattle.std.specs.Vec.Iter.{into_iter_items}
use Rattle.script_run.specs.RunFaults.{fault_of_print}
use Rattle.script_run.proofs.Sequenced.{written-push, stops-before, stops-within}
use Rattle.script_run.proofs.Unread.{err-all}
use Rattle.script_run.specs.SharedRunning.{Answers}
use Rattle.script_run.specs.SharedStops.{IsCommandFault}
use Rattle.script_run.proofs.SharedRan.{Answers-same}
use Rattle.script_run.proofs.shared.commands.run_commands.Goals as goal

pub loop-command-preserved : goal.loop-command-preserved
loop-command-preserved g c =
    let before = c.loop-command in
    let files = g.S.Source.file c.args.interpreter.now.files in
    let hex = c.args.interpreter.now.hex in
    let command = c.in-Some.command in
    let lines = string_bytes c.in_ok-lines.lines in
    let later = c.run_command.new.interpreter.seat in
    let ran = before.invariant.ran in
    let kept = before.invariant.kept in
    let answers = Answers-same files hex (g.S.Source.file before.interpreter.files) kept before.interpreter.seat command lines later
    (rw before.invariant.hex at c.in_ok-lines.ensures.ok) in
    let written = rw c.as_bytes.ensures.value at c.in_ok-write_bytes.ensures.ok in
    let next = into_iter_items c.next.new.self in
    record {
      ran = written-push (Answers files hex) c.args.interpreter.now.seat before.yielded before.interpreter.seat _ _ _ ran command lines later answers
          written;
      kept = λ name. c.in_ok-lines.ensures.kept name ∙ kept name;
      hex = c.in_ok-lines.ensures.hex ∙ before.invariant.hex;
      left = rw (append_assoc before.yielded (command ∷ []) next, ← c.in-Some.ensures.steps.0) before.invariant.left;
    }

pub returns-in_err-write_bytes-clause-stops : goal.returns-in_err-write_bytes-clause-stops
returns-in_err-write_bytes-clause-stops g c =
    let before = c.loop-command in
    let files = g.S.Source.file c.args.interpreter.now.files in
    let hex = c.args.interpreter.now.hex in
    let command = c.in-Some.command in
    let lines = string_bytes c.in_ok-lines.lines in
    let later = c.run_command.new.interpreter.seat in
    let answers = Answers-same files hex (g.S.Source.file before.interpreter.files) before.invariant.kept before.interpreter.seat command lines
    later (rw before.invariant.hex at c.in_ok-lines.ensures.ok) in
    let got = rw c.as_bytes.ensures.value at c.in_err-write_bytes.ensures.unwritten in
    let left = rw c.in-Some.ensures.steps.0 at before.invariant.left in
    err-all c.from_residual-in_err-write_bytes.result _ c.from_residual-in_err-write_bytes.ensures.1
    (λ fault is. stops-within (Answers files hex) IsCommandFault c.args.interpreter.now.seat before.yielded before.interpreter.seat _ _ before.invariant.ran _ _ command
    _ left lines later answers got fault (is ∙ ap fault_of_print c.in_err-write_bytes.ensures.fault) _
    c.in_err-write_bytes.ensures.refused)

pub returns-in_err-lines-clause-stops : goal.returns-in_err-lines-clause-stops
returns-in_err-lines-clause-stops g c =
    let before = c.loop-command in
    let files = g.S.Source.file c.args.interpreter.now.files in
    let hex = c.args.interpreter.now.hex in
    let command = c.in-Some.command in
    let left = rw c.in-Some.ensures.steps.0 at before.invariant.left in
    err-all c.from_residual.result _ c.from_residual.ensures.1
    (λ fault is. stops-before (Answers files hex) IsCommandFault c.args.interpreter.now.seat before.yielded before.interpreter.seat _ _ before.invariant.ran _ command _
    left fault (subst (IsCommandFault command) (sym is) c.in_err-lines.ensures.named) _)
