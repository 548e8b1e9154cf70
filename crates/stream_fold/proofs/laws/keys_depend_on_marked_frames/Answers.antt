use Rattle.stream_fold.proofs.LaterUnits.{depend_on_marked}
use Rattle.stream_fold.proofs.laws.keys_depend_on_marked_frames.Goals as goal

pub returns : goal.returns
returns c stream place = depend_on_marked stream place
