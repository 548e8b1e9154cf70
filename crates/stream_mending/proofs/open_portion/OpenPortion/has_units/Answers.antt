use Rattle.stream_mending.proofs.Open.{units_counted}
use Rattle.stream_mending.proofs.open_portion.OpenPortion.has_units.Goals as goal

pub returns-else-self : goal.returns-else-self
returns-else-self c = λ portion is_open. units_counted portion c.args.self.now is_open c.if-self.false
