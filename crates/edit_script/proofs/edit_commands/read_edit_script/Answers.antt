use Rattle.std.proofs.Common.{inr}
use Rattle.std.specs.Vec.Iter.{into_iter_items}
use Rattle.edit_script.proofs.edit_commands.read_edit_script.Goals as goal

pub returns-in-None-for_edits : goal.returns-in-None-for_edits
returns-in-None-for_edits c =
    let before = c.loop-number in
    inr (record {
      before = before.commands.items;
      command = c.in-Some.command;
      after = into_iter_items c.next.new.self;
      wrong = c.in_ok-numbered.field-0.wrong;
      read = rw c.in-Some.ensures.steps.0 at before.invariant;
      none = c.in-None-for_edits.ensures;
    })
