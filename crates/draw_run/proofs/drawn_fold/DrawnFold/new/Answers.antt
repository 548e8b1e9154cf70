use Rattle.std.proofs.Common.{rules}
use Rattle.draw_run.specs.Folds.{AreWalked}
use Rattle.draw_run.proofs.Chosen.{chosen-nothing}
use Rattle.draw_run.proofs.Seen.{walked-none}
use Rattle.draw_run.proofs.drawn_fold.DrawnFold.new.Goals as goal

pub returns-clause-folded : goal.returns-clause-folded
returns-clause-folded c = record {
  choice_is = search rules;
  state_is = search rules;
  outcomes_are = search rules;
  walked = rw c.new-doubts.ensures.items (walked-none c.new-walk.result c.new-walk.ensures);
  kept_are = rw c.new-3.ensures.items (chosen-nothing c.args.choice.from c.args.choice.units);
}
