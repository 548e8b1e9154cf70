use Rattle.std.proofs.Common.{◌≡◌, take, filter_map}
use Rattle.std.specs.List.{zip}
use Rattle.serve_calls.specs.Answering.{unit_in}
use Rattle.serve_calls.proofs.questions.answers.Given as goal

-- the outcomes of the units so far
abbrev pub invariant-loop-at : goal.invariant-loop-at
invariant-loop-at l =
    l.answers.items ≡ filter_map (unit_in l.session.register.stream l.controls) (take l.at (zip l.ids l.told))
