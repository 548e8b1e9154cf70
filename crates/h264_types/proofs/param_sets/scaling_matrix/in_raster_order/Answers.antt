use Rattle.std.proofs.Common.{ap, arith, length-set, get_or}
use Rattle.std.proofs.lemmas.List.FromFn.{fill_by_all}
use Rattle.h264_types.proofs.ScalingEntries.{place_more}
use Rattle.h264_types.proofs.param_sets.scaling_matrix.in_raster_order.Goals as goal

pub loop-place-preserved : goal.loop-place-preserved
loop-place-preserved g c =
    let w = c.loop-place.invariant in
    record {
      size = simp length-set w.size;
      written = place_more (λ place. get_or c.args.list.now (get_or c.args.entry_numbers.now place 0) 0) c.loop-place.block c.loop-place.place (get_or c.args.list.now c.from.result 0) (ap (λ number. get_or c.args.list.now number 0) c.from.ensures) (omega arith) w.written;
    }

pub returns : goal.returns
returns g c =
    let w = c.loop-place.invariant in
    fill_by_all (λ place. get_or c.args.list.now (get_or c.args.entry_numbers.now place 0) 0) c.loop-place.block g.row.N 0 w.size (λ k below. w.written k (omega arith))
