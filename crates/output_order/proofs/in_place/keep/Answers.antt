use Rattle.std.proofs.Common.{◌<◌}
use Rattle.std.proofs.lemmas.List.Elements.{All-filter}
use Rattle.output_order.specs.InPlace.{stays}
use Rattle.output_order.proofs.in_place.keep.Goals as goal

pub shift-requires-clause-below : goal.shift-requires-clause-below
shift-requires-clause-below c =
    rw c.take_out.ensures.items (All-filter (stays c.args.low c.args.high) (λ key. key.offset < c.args.units) c.args.keys.now.items c.requires.below)
