use Rattle.std.proofs.Common.{rules, ap, ap₂, codes, pos, ◌≡◌, ◌∙◌}
use Rattle.std.proofs.lemmas.Result.{IfOk-weaker}
use Rattle.clap.specs.Words.{app_of, new_app, rule_of, with_rule}
use Rattle.clap.specs.declared.builder.ValueParser.{ValueParser}
use Rattle.clap.specs.declared.builder.ValueParser.TheVariants.{Signed}
use Rattle.cli.specs.Bounds.{most_workers}
use Rattle.cli.specs.CommandLine.{option_rule, one_worker_rule}
use Rattle.cli.proofs.serving_args.serve_command.Goals as goal

pub returns : goal.returns
returns c =
    let few : c.range-few.result ≡ Signed (pos 0) (pos most_workers) = rw (c.value_parser.ensures, c.new.ensures.start, c.new.ensures.end) at c.range-few.ensures in
    let workers_is : rule_of c.number_option-workers.result ≡ one_worker_rule = c.number_option-workers.ensures.rule ∙ ap (λ (q : ValueParser). option_rule (codes "workers") q (codes "1")) few in
    let base : app_of c.about.result ≡ new_app (codes "serve") = search rules in
    IfOk-weaker c.arg-3.result _ _ (λ command added. added.shape c.journal_option-journal.ensures.local
    ∙ ap₂ with_rule (c.in_ok-arg-2.ensures.shape c.cache_option-cache.ensures.local
    ∙ ap₂ with_rule (c.in_ok-arg.ensures.shape c.number_option-workers.ensures.local
    ∙ ap₂ with_rule base workers_is) c.cache_option-cache.ensures.rule) c.journal_option-journal.ensures.rule) c.arg-3.ensures
