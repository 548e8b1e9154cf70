use Rattle.std.proofs.Common.{rules, ap₂, codes, ◌≡◌, ◌∙◌}
use Rattle.std.proofs.lemmas.Result.{IfOk-weaker}
use Rattle.clap.specs.Words.{app_of, new_app, with_rule}
use Rattle.cli.proofs.planning_args.check_command.Goals as goal

pub returns : goal.returns
returns c =
    let base : app_of c.about.result ≡ new_app (codes "check") = search rules in
    IfOk-weaker c.arg-2.result _ _ (λ command added. added.shape c.flag-json.ensures.local
    ∙ ap₂ with_rule (c.in_ok-arg.ensures.shape c.needed-file.ensures.local ∙ ap₂ with_rule base c.needed-file.ensures.rule) c.flag-json.ensures.rule) c.arg-2.ensures
