use Rattle.std.proofs.Common.{drop, sym}
use Rattle.std.proofs.lemmas.List.{take_rest}
use Rattle.slice_decoding.specs.Modification.{is_entry_of}
use Rattle.slice_decoding.proofs.Puts.{position-Some, position-None, put-moved, put-added}
use Rattle.slice_decoding.proofs.ref_lists.reference_list.put.Goals as goal
use Rattle.slice_decoding.proofs.ref_lists.reference_list.put.Goals.{in-Some, in-None}

pub returns : goal.returns
returns c =
    let items = c.list.inside.entries.items in
    let is = is_entry_of c.args.place in
    let after = drop c.args.index items in
    let inside = rw (← c.list.view_is) at c.requires.inside in
    let once = rw (← c.list.view_is) at c.requires.once in
    rw (c.insert.ensures.items, c.remove.ensures.items, ← c.list.view_is) (elim c.match-index_of.branch [
      | in-Some w ↦
          let there = position-Some is after w.in-Some.offset (rw (c.deref.ensures.0, take_rest items c.args.index) at (sym w.in-Some.ensures)) in
          rw (w.out-is, there.0) (put-moved c.args.index c.args.place items inside once there.1)
      | in-None w ↦
          let missing = position-None is after (rw (c.deref.ensures.0, take_rest items c.args.index) at (sym w.in-None.ensures)) in
          rw (w.out-is, w.len.ensures.value) (put-added c.args.index c.args.place items inside missing)
    ])
