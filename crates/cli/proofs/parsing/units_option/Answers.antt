use Rattle.std.proofs.Common.{ap, codes, pos, ◌≡◌, ◌∙◌}
use Rattle.clap.specs.Words.{rule_of}
use Rattle.clap.specs.declared.builder.ValueParser.{ValueParser}
use Rattle.clap.specs.declared.builder.ValueParser.TheVariants.{Signed}
use Rattle.cli.specs.Bounds.{most_drawn}
use Rattle.cli.specs.CommandLine.{option_rule}
use Rattle.cli.proofs.parsing.units_option.Goals as goal

pub returns-clause-rule : goal.returns-clause-rule
returns-clause-rule c =
    let capacity : c.range-few.result ≡ Signed (pos 1) (pos most_drawn) = rw (c.value_parser.ensures, c.new.ensures.start, c.new.ensures.end) at c.range-few.ensures in
    c.number_option.ensures.rule ∙ ap (λ (q : ValueParser). option_rule (codes "units") q (codes "60")) capacity
