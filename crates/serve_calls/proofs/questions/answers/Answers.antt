use Rattle.std.proofs.Common.{◌∙◌, ◌<◌, ◌≤◌, length, filter_map, ap, arith}
use Rattle.std.proofs.lemmas.List.{take_all}
use Rattle.std.specs.List.{zip}
use Rattle.serve_calls.specs.Answering.{unit_in}
use Rattle.serve_calls.proofs.Listing.{filter_map-more, length-zip, pair_at}
use Rattle.serve_calls.proofs.questions.answers.Goals as goal

pub loop-at-preserved : goal.loop-at-preserved
loop-at-preserved c =
    let ids = c.args.ids.now in
    let told = c.args.told.now in
    let at = c.loop-at.at in
    let here : at < length ids = c.loop-at-test.true in
    let there : at < length told = omega (arith, here, c.requires) in
    let long = length-zip ids told c.requires in
    let within : at < length (zip ids told) = omega (arith, here, long) in
    filter_map-more (unit_in c.args.session.now.register.stream c.args.controls) (zip ids told) at
    (c.index-ids-at.result, c.index-told-at.result) _ _ _ within
    (pair_at ids told at _ _ here there c.index-ids-at.is c.index-told-at.is) c.loop-at.invariant
    c.in_ok-answer.ensures c.in_ok-push_some.ensures

pub returns : goal.returns
returns c =
    let ids = c.args.ids.now in
    let told = c.args.told.now in
    let at = c.loop-at.at in
    let long = length-zip ids told c.requires in
    let whole : length (zip ids told) ≤ at = omega (arith, c.loop-at-test.false, long) in
    c.loop-at.invariant ∙ ap (filter_map (unit_in c.args.session.now.register.stream c.args.controls)) (take_all at (zip ids told) whole)
