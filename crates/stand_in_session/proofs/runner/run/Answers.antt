use Rattle.std.proofs.Common.{◌≡◌, ◌+◌, ◌∷◌, ◌++◌, [], List, take, ap, sym, ◌∙◌, subst}
use Rattle.std.proofs.lemmas.List.{take_more, get_or_read}
use Rattle.stand_in_session.specs.declared.commands.Command.{Command}
use Rattle.stream_session.specs.Machines.{empty}
use Rattle.stand_in_session.specs.Runs.{Runs}
use Rattle.stand_in_session.proofs.Ran.{Answers-copy, Runs-push}
use Rattle.stand_in_session.proofs.runner.run.Goals as goal

pub loop-command-preserved : goal.loop-command-preserved
loop-command-preserved c =
    let P : List Command → Type 0 = λ commands.
    Runs (empty c.args.config.cache) commands (c.loop-command.replies.items ++ c.in_ok-step.field-0 ∷ []) c.step.new.self in
    rw c.in_ok-push.ensures.items
    (subst P (sym more)
    (Runs-push (empty c.args.config.cache) (take c.loop-command.command-index c.args.commands.now) c.loop-command.replies.items
    c.loop-command.runner c.command-item.result c.in_ok-step.field-0 c.step.new.self
    c.loop-command.invariant (Answers-copy c.loop-command.runner c.command-item.result _ c.in_ok-step.field-0 c.step.new.self c.in_ok-copy.ensures c.in_ok-step.ensures.ok)))
  where
    more : take (c.loop-command.command-index + 1) c.args.commands.now
        ≡ take c.loop-command.command-index c.args.commands.now ++ c.command-item.result ∷ []
    more =
        take_more c.args.commands.now c.loop-command.command-index c.command-item.result c.loop-command-test.true
        ∙ ap (λ command. take c.loop-command.command-index c.args.commands.now ++ command ∷ [])
        (sym (get_or_read c.args.commands.now c.loop-command.command-index c.command-item.result c.loop-command-test.true c.command-item.is c.command-item.result))
