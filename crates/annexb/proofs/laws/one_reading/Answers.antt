use Rattle.annexb.proofs.Readings.{same_reading}
use Rattle.annexb.proofs.laws.one_reading.Goals as goal

pub returns : goal.returns
returns c = same_reading
