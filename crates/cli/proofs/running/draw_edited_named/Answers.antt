use Rattle.cli.proofs.Edited.{edited-fails, edited-right, edited-unread}
use Rattle.cli.proofs.Unopened.{failed-ends}
use Rattle.cli.proofs.running.draw_edited_named.Goals as goal

pub returns-in-Ok : goal.returns-in-Ok
returns-in-Ok g c =
    let files = g.D.Directory.bytes c.args.inputs.directory.now in
    let standard = g.I.Read.remaining c.args.inputs.standard in
    let text = rw c.in-Ok.is at c.named_texts.ensures.stream in
    let script = rw c.in-Ok.is at c.named_texts.ensures.script in
    record {
      right = λ success. edited-right files standard _ _ _ _ _ _ c.args.names.stream.now c.args.names.script.now c.args.choice.from
          c.args.choice.units _ _ text script (rw c.as_slice-edits.ensures at (c.draw_edited.ensures.done success));
      fails = λ failure. edited-fails files standard _ _ _ _ _ _ _ c.args.names.stream.now c.args.names.script.now
          c.args.choice.from c.args.choice.units _ _ text script
          (rw c.as_slice-edits.ensures at (c.draw_edited.ensures.ends failure));
      usage = c.draw_edited.ensures.usage;
    }

pub returns-in-Err : goal.returns-in-Err
returns-in-Err g c =
    rw c.failed.ensures (failed-ends _ _ _ _ _ _ _ _ _ _
    (edited-unread (g.D.Directory.bytes c.args.inputs.directory.now) (g.I.Read.remaining c.args.inputs.standard)
    c.say_input_fault.result _ _ (g.W.Write.contents c.args.console.now.output) _ _ c.args.names.stream c.args.names.script
    c.in-Err.unread.name c.args.choice.from c.args.choice.units c.in-Err.unread.fault
    (rw c.in-Err.is at c.named_texts.ensures.unread) c.say_input_fault.ensures))
