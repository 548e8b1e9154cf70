use Rattle.std.proofs.Common.{◌≡◌, map}
use Rattle.std.specs.List.{range_with_len}
use Rattle.slice_decoding.specs.InitialLists.{standing_at}
use Rattle.slice_decoding.proofs.ref_lists.initial_lists.push_standings.Given as goal

abbrev pub invariant-loop-place : goal.invariant-loop-place
invariant-loop-place l = l.standings.items ≡ map (standing_at l.sps l.frame_num l.order l.frames) (range_with_len 0 l.place)
