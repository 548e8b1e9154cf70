use Rattle.frame_requests.specs.PredWeightsLayout.{weight_factors_layout}
use Rattle.frame_requests.proofs.Pairs.{mapped-pair}
use Rattle.frame_requests.proofs.layouts.pred_weights.both.Goals as goal

pub returns : goal.returns
returns c = rw (c.of.ensures, c.of-2.ensures) (mapped-pair weight_factors_layout c.args.factors.now _ c.told-factors)
