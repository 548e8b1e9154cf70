use Rattle.std.proofs.Common.{◌≡◌, take}
use Rattle.std.proofs.lemmas.List.{take_min}
use Rattle.serve_answers.specs.LeftOutAnswers.{most_left_out}
use Rattle.serve_answers.proofs.left_out_answers.first_of.Goals as goal

pub returns : goal.returns
returns c = rw c.min.ensures (take_min most_left_out c.args.left_out.now)
