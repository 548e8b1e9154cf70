use Rattle.access_unit.proofs.UnitsAt.{unit_there}
use Rattle.access_unit.proofs.places.nals_at.Goals as goal

pub nal_at-requires-clause-unit : goal.nal_at-requires-clause-unit
nal_at-requires-clause-unit c =
    unit_there c.args.text.now c.args.places.now c.loop-place.place-index (record { start = 0; end = 0 }) c.loop-place-test.true c.requires.units
