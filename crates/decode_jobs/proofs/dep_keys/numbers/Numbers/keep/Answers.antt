use Rattle.decode_jobs.specs.Marks.{is_marked}
use Rattle.decode_jobs.proofs.Placing.{left_below, left_apart}
use Rattle.decode_jobs.proofs.dep_keys.numbers.Numbers.keep.Goals as goal

pub place_all-requires-clause-below : goal.place_all-requires-clause-below
place_all-requires-clause-below c =
    rw (c.deref.ensures.value, c.deref_mut.ensures.value, c.keep_marked.ensures)
    (left_below (is_marked c.args.marks.now) c.self.inside.live.items c.self.inside.places.items c.self.invariant.placed)

pub place_all-requires-clause-apart : goal.place_all-requires-clause-apart
place_all-requires-clause-apart c =
    rw (c.deref.ensures.value, c.keep_marked.ensures)
    (left_apart (is_marked c.args.marks.now) c.self.inside.live.items c.self.inside.places.items c.self.invariant.placed)
