use Rattle.std.proofs.Common.{inr}
use Rattle.std.specs.Vec.Iter.{into_iter_items}
use Rattle.edit_script.proofs.reading.read_kind.Goals as goal

pub returns-in-None-of_command : goal.returns-in-None-of_command
returns-in-None-of_command g c =
    let before = c.loop-number in
    inr (record {
      before = before.yielded;
      commands = before.commands.items;
      command = c.in-Some.command;
      after = into_iter_items c.next.new.self;
      wrong = c.in_ok-numbered.field-0.wrong;
      read = rw c.in-Some.ensures.steps.0 at before.invariant.read;
      of_kind = before.invariant.of_kind;
      none = c.in-None-of_command.ensures;
    })
