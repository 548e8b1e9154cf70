use Rattle.std.proofs.Common.{arith}
use Rattle.output_order.proofs.Splices.{length_spliced}
use Rattle.output_order.proofs.periods.Periods.splice.Goals as goal

pub prepare_splice-requires-clause-fits : goal.prepare_splice-requires-clause-fits
prepare_splice-requires-clause-fits c =
    omega (arith, length_spliced c.args.low c.args.high c.args.units.now _ c.requires.ordered c.requires.within, c.requires.fits)
