use Rattle.std.proofs.Common.{rules, lit<}
use Rattle.std.proofs.lemmas.Iterator.Consumers.{YieldsList-from_filter, nth_from_yields_List}
use Rattle.std.proofs.lemmas.Iterator.Splits.{YieldsList-from_str_split}
use Rattle.edit_script.specs.Words.{has_bytes}
use Rattle.failure_reasons.proofs.script_reasons.reason.first_word.Goals as goal
use borrow.Author.Tests.{tests}

pub returns : goal.returns
returns c =
    let source = c.filter.ensures.source in
    let pieces = YieldsList-from_str_split {s = c.filter.result.iter} 32 c.args.line.now (lit< tt)
    (rw source c.split.ensures.text) (rw source c.split.ensures.has_more) (rw source c.split.ensures.pattern) in
    nth_from_yields_List _ _ 0 c.nth.ensures.ran
    (YieldsList-from_filter {s = c.filter.result} _ has_bytes pieces c.filter.ensures.closure (λ x b q k. search (rules, tests)))
