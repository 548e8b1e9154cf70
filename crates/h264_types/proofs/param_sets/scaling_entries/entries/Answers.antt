use Rattle.std.proofs.Common.{arith, length-set}
use Rattle.std.proofs.lemmas.List.FromFn.{fill_by_all}
use Rattle.h264_types.specs.ScalingMatrix.{before_end, entry, entries}
use Rattle.h264_types.proofs.ScalingEntries.{place_more, scale_further, left_further}
use Rattle.h264_types.proofs.param_sets.scaling_entries.entries.Goals as goal

pub loop-entry-preserved : goal.loop-entry-preserved
loop-entry-preserved g c =
    let w = c.loop-entry.invariant in
    let e = c.next_entry.ensures in
    let i = c.loop-entry.entry-index in
    let kept = before_end 8 c.args.deltas.now in
    let rest = before_end c.loop-entry.last c.loop-entry.rest.now in
    let after = before_end c.next_entry.result.0 c.next_entry.result.1.now in
    let last = scale_further kept rest after i c.loop-entry.last c.next_entry.result.0 w.last w.rest e.ended e.next in
    record {
      size = simp length-set w.size;
      last = last;
      rest = left_further kept rest after i w.rest e.same e.rest;
      written = place_more (entry c.args.deltas.now) c.loop-entry.entry-items i c.next_entry.result.0 last (omega arith) w.written;
    }

pub returns : goal.returns
unfolding entries
returns g c =
    let w = c.loop-entry.invariant in
    fill_by_all (entry c.args.deltas.now) c.loop-entry.entry-items g.row.N 0 w.size (λ k below. w.written k (omega arith))
