use Rattle.std.proofs.Common.{rules, ap₂, codes, ◌≡◌, ◌∙◌}
use Rattle.std.proofs.lemmas.Result.{IfOk-weaker}
use Rattle.clap.specs.Words.{app_of, new_app, with_rule}
use Rattle.cli.proofs.planning_args.mend_command.Goals as goal

pub returns : goal.returns
returns c =
    let base : app_of c.about.result ≡ new_app (codes "mend") = search rules in
    IfOk-weaker c.arg.result _ _ (λ command added. added.shape c.stream-file.ensures.local ∙ ap₂ with_rule base c.stream-file.ensures.rule) c.arg.ensures
