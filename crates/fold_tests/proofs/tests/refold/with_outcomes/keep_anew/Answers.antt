use Rattle.std.proofs.Common.{ap, arith, length}
use Rattle.request_core.specs.States.{no_units}
use Rattle.stream_fold.proofs.Folds.{length-outcomes_from}
use Rattle.fold_tests.proofs.tests.refold.with_outcomes.keep_anew.Goals as goal

pub replace_range-requires-clause-inside : goal.replace_range-requires-clause-inside
replace_range-requires-clause-inside c =
    omega (
      arith,
      c.end_of.ensures,
      c.requires.anew.within,
      ap length c.requires.outcomes,
      length-outcomes_from no_units c.args.ordered.now.folded.stream,
      c.reserve.ensures.len,
      c.args.outcomes.now.ok.0,
    )
