use Rattle.slice_decoding.proofs.RefListsPlaces.{initial_list-from_sort}
use Rattle.slice_decoding.proofs.ref_lists.initial_lists.initial_list.Goals as goal

pub returns : goal.returns
returns c =
    rw (c.places.ensures, c.deref.ensures.0) (initial_list-from_sort c.args.sps.now c.args.frame_num c.args.order c.args.frames.now c.sort.new.standings.items
    (rw c.push_standings.ensures at c.sort.ensures.members) c.sort.ensures.in_order)
