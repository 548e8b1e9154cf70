use Rattle.std.proofs.Common.{length, refl, take}
use Rattle.std.proofs.lemmas.Option.{slice_get_read}
use Rattle.stream_edits.specs.Drafts.{register_of}
use Rattle.stream_edits.specs.Edits.{Register}
use Rattle.stream_edits.proofs.GivenIds.{AreDifferent-ids}
use Rattle.stream_edits.proofs.Grouped.{HasIds-all, refused_among}
use Rattle.stream_edits.proofs.grouping.draft_of.Goals as goal

pub make-requires-clause-different : goal.make-requires-clause-different
make-requires-clause-different c =
    let draft = c.loop-index.draft in
    let old : Register = record { ids_given = c.args.ids_given; stream = c.args.units.now } in
    rw (c.loop-index.invariant.ids_are)
    (AreDifferent-ids (register_of draft)
    (HasIds-all old (take c.loop-index.index c.args.read.now) draft.about.items (register_of draft) c.requires.different c.loop-index.invariant.makes))

pub returns-in-Err-clause-err : goal.returns-in-Err-clause-err
returns-in-Err-clause-err c =
    let draft = c.loop-index.draft in
    rw (c.at.ensures)
    (refused_among (record { ids_given = c.args.ids_given; stream = c.args.units.now }) c.args.read.now c.loop-index.index c.in-Err.refused
    (record {
      edit = c.index-read-index.result;
      stands =
          slice_get_read c.args.read.now (length c.args.read.now) c.loop-index.index c.index-read-index.result refl c.loop-index-test.true
          c.index-read-index.is;
      ids = draft.about.items;
      before = register_of draft;
      accepted = c.loop-index.invariant.makes;
      refused = c.in-Err.ensures.err;
    }))
