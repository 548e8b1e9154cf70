use Rattle.std.proofs.Common.{arith, rules}
use Rattle.output_order.proofs.Placed.{place_found, ArePlaced-more, positions_are}
use Rattle.output_order.proofs.positions_by_key.positions.Goals as goal

pub index_mut-requires : goal.index_mut-requires
index_mut-requires c =
    let loop = c.loop-position in
    place_found _ _ loop.invariant.in_order loop.position _ loop.positions.items loop.invariant.placed c.loop-position-test.true _ (search rules)

pub loop-position-preserved : goal.loop-position-preserved
loop-position-preserved c =
    let loop = c.loop-position in record {
      in_order = loop.invariant.in_order;
      placed = ArePlaced-more _ _ loop.invariant.in_order loop.position _ loop.positions.items loop.invariant.placed c.loop-position-test.true;
    }

pub returns : goal.returns
returns c =
    let loop = c.loop-position in
    positions_are _ _ loop.invariant.in_order loop.position loop.positions.items loop.invariant.placed (omega arith)
