use Rattle.edit_script.proofs.OneReading.{same-reading}
use Rattle.edit_script.proofs.reading.one_reading.Goals as goal

pub returns : goal.returns
returns c = same-reading
