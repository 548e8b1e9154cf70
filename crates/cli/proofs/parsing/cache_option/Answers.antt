use Rattle.std.proofs.Common.{ap, codes, pos, ◌≡◌, ◌∙◌}
use Rattle.clap.specs.Words.{rule_of}
use Rattle.clap.specs.declared.builder.ValueParser.{ValueParser}
use Rattle.clap.specs.declared.builder.ValueParser.TheVariants.{Signed}
use Rattle.held_pictures.specs.Bounded.{most_capacity}
use Rattle.cli.specs.CommandLine.{option_rule}
use Rattle.cli.proofs.parsing.cache_option.Goals as goal

pub returns-clause-rule : goal.returns-clause-rule
returns-clause-rule c =
    let capacity : c.range-capacity.result ≡ Signed (pos 1) (pos most_capacity) = rw (c.value_parser.ensures, c.new.ensures.start, c.new.ensures.end) at c.range-capacity.ensures in
    c.number_option.ensures.rule ∙ ap (λ (q : ValueParser). option_rule (codes "cache") q (codes "64")) capacity
