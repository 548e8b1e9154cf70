use Rattle.std.proofs.Common.{◌∙◌, refl}
use Rattle.stream_session.proofs.Pictured.{IsStoreOf}
use Rattle.stream_session.proofs.Changed.{short-changed, needs-told, prepared-with, splice-prepared, apart-prepared, decodable-prepared, MovesPictures-prepared}
use Rattle.stream_session.proofs.changing.change_stream.Goals as goal

pub prepare-requires-clause-short : goal.prepare-requires-clause-short
prepare-requires-clause-short g c =
    short-changed c.args.change c.args.ordered.now.folded.stream c.requires.before c.requires.after

pub prepare-requires-clause-outcomes : goal.prepare-requires-clause-outcomes
prepare-requires-clause-outcomes g c = c.outcomes.ensures ∙ c.requires.folded

pub splice_of-requires-clause-anew : goal.splice_of-requires-clause-anew
splice_of-requires-clause-anew g c = rw (c.prepare.ensures.kept) c.in_ok-prepared.ensures.anew

pub refit-requires-clause-splice : goal.refit-requires-clause-splice
refit-requires-clause-splice g c =
    let stream = c.args.ordered.now.folded.stream in
    let stored : IsStoreOf stream c.args.store.now = record { identified = c.requires.identified; folded = c.requires.folded } in
    let is =
    prepared-with c.args.change stream c.prepare.new.self c.in_ok-prepared.prepared c.in_ok-splice.splice
    c.prepare.ensures.kept c.in_ok-prepared.ensures.ready c.in_ok-prepared.ensures.change c.in_ok-splice.ensures
    c.in_ok-prepared.ensures.few c.in_ok-prepared.ensures.counted in
    splice-prepared stream c.args.store.now c.args.change c.prepare.new.self c.in_ok-prepared.prepared c.in_ok-splice.splice stored
    c.requires.after is

pub refit-requires-clause-different : goal.refit-requires-clause-different
refit-requires-clause-different g c = rw c.requires.identified c.requires.before.differ

pub refit-requires-clause-apart : goal.refit-requires-clause-apart
refit-requires-clause-apart g c =
    let stream = c.args.ordered.now.folded.stream in
    let stored : IsStoreOf stream c.args.store.now = record { identified = c.requires.identified; folded = c.requires.folded } in
    let is =
    prepared-with c.args.change stream c.prepare.new.self c.in_ok-prepared.prepared c.in_ok-splice.splice
    c.prepare.ensures.kept c.in_ok-prepared.ensures.ready c.in_ok-prepared.ensures.change c.in_ok-splice.ensures
    c.in_ok-prepared.ensures.few c.in_ok-prepared.ensures.counted in
    apart-prepared stream c.args.store.now c.args.change c.prepare.new.self c.in_ok-prepared.prepared c.in_ok-splice.splice stored
    c.requires.after is

pub refit-requires-clause-decodable : goal.refit-requires-clause-decodable
refit-requires-clause-decodable g c =
    let stream = c.args.ordered.now.folded.stream in
    let stored : IsStoreOf stream c.args.store.now = record { identified = c.requires.identified; folded = c.requires.folded } in
    let is =
    prepared-with c.args.change stream c.prepare.new.self c.in_ok-prepared.prepared c.in_ok-splice.splice
    c.prepare.ensures.kept c.in_ok-prepared.ensures.ready c.in_ok-prepared.ensures.change c.in_ok-splice.ensures
    c.in_ok-prepared.ensures.few c.in_ok-prepared.ensures.counted in
    decodable-prepared stream c.args.store.now c.args.change c.prepare.new.self c.in_ok-prepared.prepared c.in_ok-splice.splice stored
    c.requires.after is

pub refit-requires-clause-told : goal.refit-requires-clause-told
refit-requires-clause-told g c =
    let stream = c.args.ordered.now.folded.stream in
    let stored : IsStoreOf stream c.args.store.now = record { identified = c.requires.identified; folded = c.requires.folded } in
    let past = rw (c.prepare.ensures.kept) at c.states.ensures.past in
    needs-told stream c.args.store.now c.states.result.now.states stored past

pub returns-clause-moves : goal.returns-clause-moves
returns-clause-moves g c =
    let stream = c.args.ordered.now.folded.stream in
    let stored : IsStoreOf stream c.args.store.now = record { identified = c.requires.identified; folded = c.requires.folded } in
    let is =
    prepared-with c.args.change stream c.prepare.new.self c.in_ok-prepared.prepared c.in_ok-splice.splice
    c.prepare.ensures.kept c.in_ok-prepared.ensures.ready c.in_ok-prepared.ensures.change c.in_ok-splice.ensures
    c.in_ok-prepared.ensures.few c.in_ok-prepared.ensures.counted in
    rw (c.steps-steps.ensures, c.refolded.ensures)
    (MovesPictures-prepared stream c.args.store.now c.args.change c.prepare.new.self c.in_ok-prepared.prepared c.in_ok-splice.splice stored
    c.requires.after is c.refit.new.self c.in_ok-taken.taken.lost c.in_ok-taken.taken.changed c.in_ok-taken.ensures.ok
    c.in_ok-taken.ensures.changed)

pub returns-clause-stream : goal.returns-clause-stream
returns-clause-stream g c =
    rw (c.commit.ensures, c.prepare.ensures.kept, c.in_ok-prepared.ensures.change) refl
