use Rattle.stream_mending.proofs.Steps.{first_left}
use Rattle.stream_mending.proofs.mender.Mender.take_piece.Goals as goal

pub returns-in_ok-new-in-None : goal.returns-in_ok-new-in-None
returns-in_ok-new-in-None c = λ text written left rest said cut h.
    first_left text written left rest c.args.piece.now said c.in_ok-new-in-None.field-0 cut (rw c.in-None.is at h)
    (λ bytes others is. c.in_ok-new-in-None.ensures text bytes others is)
