use Rattle.std.proofs.Common.{refl, ◌++◌, ◌∷◌, []}
use Rattle.stream_mending.proofs.Steps.{begun}
use Rattle.stream_mending.proofs.mending.Mending.begin.Goals as goal

pub returns : goal.returns
returns c = λ text written said done portion so_far.
    begun text written said (done ++ portion ∷ []) c.args.is_delimited _ _ (c.in_ok-end.ensures text written said done portion so_far)
    c.in_ok-begin.ensures refl refl refl
