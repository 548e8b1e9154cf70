use Rattle.std.proofs.Common.{ℕ, ◌∷◌, [], append_assoc, string_bytes}
use Rattle.std.specs.Vec.Iter.{into_iter_items}
use Rattle.edit_script.specs.declared.edit_commands.EditCommand.{EditCommand}
use Rattle.script_run.proofs.Sequenced.{answered-push}
use Rattle.draw_run.specs.Making.{Makes}
use Rattle.draw_run.proofs.edits.make_edits.Goals as goal

pub loop-number-preserved : goal.loop-number-preserved
loop-number-preserved c =
    let before = c.loop-number in
    let command : ℕ × EditCommand = (c.in-Some.number, c.in-Some.command) in
    let made = c.in_ok-make.ensures in
    let next = into_iter_items c.next.new.self in
    record {
      made = rw made.2
          (answered-push Makes c.args.session.now before.yielded (string_bytes before.told) before.session before.invariant.made
          command made.0 c.make.new.session made.1);
      left = rw (append_assoc before.yielded (command ∷ []) next, ← c.in-Some.ensures.steps.0) before.invariant.left;
    }
