use Rattle.std.proofs.Common.{◌∙◌, ◌-◌, refl}
use Rattle.stream_fold.specs.Prepared.{change_in, begin_in, end_in, outcomes_in}
use Rattle.stream_edits.specs.Changes.{at_of}
use Rattle.stream_session.proofs.Ranged.{is_splice_of, ends_behind, outcomes_later, take_rest}
use Rattle.stream_session.proofs.splices.splice_of.Goals as goal

pub ids_anew-requires-clause-behind : goal.ids_anew-requires-clause-behind
ids_anew-requires-clause-behind c =
    rw (c.end_of-to.ensures, c.change-change.ensures, c.refolded-refolded.ensures)
    (ends_behind (change_in c.args.prepared.now.refolded) c.args.ordered.now.folded.stream
    c.requires.ready.refolded.inside c.args.prepared.now.refolded.met _ c.requires.ready.refolded.made.met_at)

pub ids_anew-requires-clause-within : goal.ids_anew-requires-clause-within
ids_anew-requires-clause-within c = rw (c.end_of-to.ensures, c.units.ensures) c.requires.anew.within

pub returns : goal.returns
returns c =
    let refolded = c.args.prepared.now.refolded in
    let stream = c.args.ordered.now.folded.stream in
    let change = change_in refolded in
    let inside = c.requires.ready.refolded.inside in
    let before = c.requires.ready.refolded.made.before in
    let behind = ends_behind change stream inside refolded.met _ c.requires.ready.refolded.made.met_at in
    let ids = rw (c.end_of-to.ensures, c.change-change.ensures, c.refolded-refolded.ensures, c.units.ensures) at c.in_ok-ids_anew.ensures in
    let outcomes = rw (c.at-from.ensures, c.begin.ensures, c.change-change.ensures, c.outcomes.ensures, c.refolded-refolded.ensures) at c.in_ok-shares_of.ensures in
    rw (c.at-from.ensures, c.end_of-to.ensures, c.change-change.ensures, c.refolded-refolded.ensures)
    (is_splice_of change stream inside
    (record {
      from = at_of change;
      to = end_in refolded stream;
      ids = c.in_ok-ids_anew.field-0;
      outcomes = c.in_ok-shares_of.field-0;
    })
    refl behind c.requires.anew.within ids
    (rw (outcomes ∙ take_rest (at_of change - begin_in refolded) (outcomes_in refolded))
    (outcomes_later change stream inside (begin_in refolded) (end_in refolded stream) (outcomes_in refolded) before behind
    c.requires.anew.within c.requires.anew.outcomes_are)))
