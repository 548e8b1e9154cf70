use Rattle.std.proofs.Common.{sym, ◌∙◌}
use Rattle.annexb.proofs.Cuts.{same_cut}
use Rattle.annexb.proofs.laws.one_cut.Goals as goal

pub returns : goal.returns
returns c = λ units parts others h h'. sym (same_cut units parts h) ∙ same_cut units others h'
