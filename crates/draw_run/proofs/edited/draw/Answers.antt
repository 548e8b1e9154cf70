use Rattle.draw_run.proofs.edited.draw.Goals as goal

pub returns-in-Ok-clause-done : goal.returns-in-Ok-clause-done
returns-in-Ok-clause-done g c =
    c.write_edited.ensures.done c.args.text.now c.args.script.now c.in-Ok.ensures.ok c.in_ok-commands.ensures

pub returns-in-Ok-clause-ends : goal.returns-in-Ok-clause-ends
returns-in-Ok-clause-ends g c =
    c.write_edited.ensures.ends c.args.text.now c.args.script.now c.in-Ok.ensures.ok c.in_ok-commands.ensures
