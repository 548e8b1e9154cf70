use Rattle.std.proofs.Common.{rules, ap₂, codes, ◌≡◌, ◌∙◌}
use Rattle.std.proofs.lemmas.Result.{IfOk-weaker}
use Rattle.clap.specs.Words.{app_of, new_app, with_rule}
use Rattle.cli.proofs.parsing.draw_command.Goals as goal

pub returns : goal.returns
returns c =
    let base : app_of c.about.result ≡ new_app (codes "draw") = search rules in
    IfOk-weaker c.arg-4.result _ _ (λ command added. added.shape c.edits_option-edits.ensures.local
    ∙ ap₂ with_rule (c.in_ok-arg-3.ensures.shape c.units_option-units.ensures.local
    ∙ ap₂ with_rule (c.in_ok-arg-2.ensures.shape c.from_option-from.ensures.local
    ∙ ap₂ with_rule (c.in_ok-arg.ensures.shape c.needed-file.ensures.local ∙ ap₂ with_rule base c.needed-file.ensures.rule) c.from_option-from.ensures.rule) c.units_option-units.ensures.rule) c.edits_option-edits.ensures.rule) c.arg-4.ensures
