use Rattle.std.proofs.Common.{◌≡◌}
use Rattle.std.proofs.lemmas.Result.{on_ok_weaker}
use Rattle.script_run.proofs.run.run_text.Goals as goal

-- what the interpreter drops at the end isn't asked for
pub returns-clause-ok : goal.returns-clause-ok
returns-clause-ok g c =
    on_ok_weaker c.run_commands.result
    (λ ran. record {
      commands = c.in_ok-commands.commands.items;
      last = c.run_commands.new.interpreter.runner;
      read = c.in_ok-commands.ensures;
      answered = rw c.in-Ok.ensures.ok at ran;
    })
    c.run_commands.ensures.ok
