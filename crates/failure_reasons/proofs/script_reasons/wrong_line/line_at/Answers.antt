use Rattle.std.proofs.Common.{◌==◌, rules}
use Rattle.std.proofs.lemmas.Iterator.Consumers.{nth_from_yields_List}
use Rattle.std.proofs.lemmas.Iterator.Splits.{YieldsList-from_slice_split}
use Rattle.failure_reasons.proofs.script_reasons.wrong_line.line_at.Goals as goal
use borrow.Author.Tests.{tests}

pub returns : goal.returns
returns c = rw c.saturating_sub.ensures at (nth_from_yields_List _ _ _ c.nth.ensures.ran
    (YieldsList-from_slice_split {s = c.split.result} _ (λ byte. byte == 10) c.args.text.now c.split.ensures.rest c.split.ensures.done c.split.ensures.closure (λ x b q k. search (rules, tests))))
