use Rattle.cli.proofs.running.run.Goals as goal

pub returns-in-Ok-clause-wrong : goal.returns-in-Ok-clause-wrong
returns-in-Ok-clause-wrong g c wrong =
    rw c.in-Ok.is (rw c.as_slice.ensures.value at (c.run_on.ensures.wrong wrong))

pub returns-in-Ok-clause-right : goal.returns-in-Ok-clause-right
returns-in-Ok-clause-right g c right =
    rw c.in-Ok.is (rw c.as_slice.ensures.value at (c.run_on.ensures.right right))

pub returns-in-Ok-clause-fails : goal.returns-in-Ok-clause-fails
returns-in-Ok-clause-fails g c failure =
    rw c.in-Ok.is (rw c.as_slice.ensures.value at (c.run_on.ensures.fails failure))
