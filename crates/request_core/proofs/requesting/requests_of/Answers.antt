use Rattle.std.proofs.Common.{◌+◌, ◌∷◌, ◌++◌, [], length, take, nat_lt, ap, sym, ◌∙◌}
use Rattle.std.proofs.lemmas.List.{get_or_read, take_all}
use Rattle.request_core.specs.Requests.{request_of, requests_of}
use Rattle.request_core.proofs.Requested.{requests-more, length-requests}
use Rattle.request_core.proofs.requesting.requests_of.Goals as goal

pub loop-listed-preserved : goal.loop-listed-preserved
loop-listed-preserved c =
    let item = get_or_read c.args.slices.now c.loop-listed.listed-index c.listed-item.result c.loop-listed-test.true c.listed-item.is c.listed-item.result in
    let more = requests-more c.args.marks.now.frames c.args.counts c.args.id c.args.slices.now c.loop-listed.listed-index c.listed-item.result c.loop-listed-test.true in
    let made = c.in_ok-request.ensures in
    let place = c.len.ensures ∙ c.loop-listed.invariant.1 in (
      c.in_ok-push.ensures.items ∙ (ap (λ front. front ++ c.in_ok-request.request ∷ []) c.loop-listed.invariant.0
          ∙ (ap (λ request. take c.loop-listed.listed-index (requests_of c.args.marks.now.frames c.args.counts c.args.id c.args.slices.now) ++ request ∷ []) made
          ∙ (ap (λ at. take c.loop-listed.listed-index (requests_of c.args.marks.now.frames c.args.counts c.args.id c.args.slices.now) ++ request_of c.args.marks.now.frames c.args.counts c.args.id c.listed-item.result (nat_lt (at + 1) (length c.args.slices.now)) ∷ []) place
          ∙ (ap (λ listed. take c.loop-listed.listed-index (requests_of c.args.marks.now.frames c.args.counts c.args.id c.args.slices.now) ++ request_of c.args.marks.now.frames c.args.counts c.args.id listed (nat_lt (c.loop-listed.listed-index + 1) (length c.args.slices.now)) ∷ []) item
          ∙ sym more)))),
      c.in_ok-push.ensures.len ∙ ap (λ n. n + 1) c.loop-listed.invariant.1,
    )

pub returns : goal.returns
returns c =
    c.new.ensures ∙ (c.loop-listed.invariant.0 ∙ take_all c.loop-listed.listed-index (requests_of c.args.marks.now.frames c.args.counts c.args.id c.args.slices.now) (rw (length-requests c.args.marks.now.frames c.args.counts c.args.id c.args.slices.now) c.loop-listed-test.false))
