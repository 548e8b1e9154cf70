use Rattle.std.proofs.Common.{◌≡◌, length, Some, arith}
use Rattle.stream_edits.specs.Drafts.{register_of}
use Rattle.stream_edits.specs.GroupReading.{IsReadGroup}
use Rattle.stream_edits.proofs.Grouped.{refused_next}
use Rattle.stream_edits.proofs.grouping.change_of_group.Goals as goal

pub returns-in-Some-clause-err : goal.returns-in-Some-clause-err
returns-in-Some-clause-err c =
    let read = c.group.inside.read in
    let draft = c.in_ok-draft.draft in
    let group : IsReadGroup c.group.inside.edits.items read.items (Some c.in-Some.refused) = rw (c.in-Some.is) at c.group.invariant in
    let made = rw (c.deref.ensures.value) at c.in_ok-draft.ensures.ok in
    let long : c.len.result ≡ length read.items = omega (arith, c.len.ensures, read.ok.0) in
    rw (c.at.ensures, long, ← c.group.view_is)
    (refused_next (record { ids_given = c.args.ids_given; stream = c.args.units.now }) c.group.inside.edits.items read.items c.in-Some.refused
    draft.about.items (register_of draft) group made.makes)
