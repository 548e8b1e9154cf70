use Rattle.annexb.specs.ByteStream.{joined}
use Rattle.annexb.proofs.Readings.{HasUnits-joined, same_reading}
use Rattle.annexb.proofs.laws.units_of_joined.Goals as goal

pub returns-clause-there : goal.returns-clause-there
returns-clause-there c = HasUnits-joined

pub returns-clause-only : goal.returns-clause-only
returns-clause-only c = λ units others some each other. same_reading (joined units) others units other (HasUnits-joined units some each)
