use Rattle.std.proofs.Common.{◌≡◌, ◌∙◌, drop, ap, arith, Some, None}
use Rattle.edit_script.specs.Lines.{numbered_of}
use Rattle.edit_script.specs.Scripts.{read_lines}
use Rattle.edit_script.proofs.ReadCommands.{all-done, left-is, left-length, more-done, none-left}
use Rattle.edit_script.proofs.reading.read_commands.Goals as goal

pub loop-at-init : goal.loop-at-init
loop-at-init c =
    let lines : numbered_of c.as_slice-lines.result.now ≡ read_lines c.args.text.now =
    ap numbered_of c.as_slice-lines.ensures.value ∙ c.in_ok-lines.ensures in
    record {
      within = omega arith;
      done = rw c.new-commands.ensures.items (λ more wrong it. rw lines at it);
    }

pub loop-at-preserved : goal.loop-at-preserved
loop-at-preserved c =
    let before = c.loop-at in
    let lines = c.as_slice-lines.result.now in
    let front = rw (c.in-Command.is, left-is lines before.at) at c.in_ok-number.ensures in
    let long = front.2 in
    record {
      within = omega (arith, long, left-length lines before.at);
      done = rw c.in_ok-push-in-Command.ensures.items
          (more-done (read_lines c.args.text.now) (numbered_of lines) before.at _ _ _ _ front.0 before.invariant.done);
    }

pub returns-in-Wrong : goal.returns-in-Wrong
returns-in-Wrong c =
    let before = c.loop-at in
    let lines = c.as_slice-lines.result.now in
    let front = rw (c.in-Wrong.is, left-is lines before.at) at c.in_ok-number.ensures in
    all-done _ (drop before.at (numbered_of lines)) _ (Some c.in-Wrong.number) before.invariant.done front

pub returns : goal.returns
returns c =
    let before = c.loop-at in
    let lines = c.as_slice-lines.result.now in
    all-done _ (drop before.at (numbered_of lines)) _ None before.invariant.done
    (none-left lines before.at c.loop-at-test.false)
