use Rattle.std.proofs.Common.{map, ap, ◌∙◌, arith}
use Rattle.request_core.specs.Agreement.{Stream}
use Rattle.output_order.specs.Shown.{shown_of}
use Rattle.stream_fold.specs.Prepared.{end_in}
use Rattle.stream_fold.proofs.Ranges.{ends_within, spliced_fits, ordered_after}
use Rattle.stream_fold.proofs.ordered.OrderedFold.prepare.Goals as goal

pub prepare_splice-requires-clause-within : goal.prepare_splice-requires-clause-within
prepare_splice-requires-clause-within c =
    let kept = c.in_ok-refolded.ensures.kept in
    let inside = rw kept at c.in_ok-refolded.ensures.ready.inside in
    ends_within c.self.inside.folded.stream c.self.inside.periods.periods c.self.invariant c.in_ok-refolded.refolded
    c.in_ok-refolded.ensures.anew inside c.begin.result c.end-end.result c.deref.result.now c.begin.ensures
    (c.end-end.ensures ∙ ap (λ (stream : Stream). end_in c.in_ok-refolded.refolded stream) kept)
    (c.deref.ensures.value ∙ c.in_ok-shown.ensures ∙ ap (map shown_of) c.outcomes.ensures)

pub prepare_splice-requires-clause-fits : goal.prepare_splice-requires-clause-fits
prepare_splice-requires-clause-fits c =
    let kept = c.in_ok-refolded.ensures.kept in
    let inside = rw kept at c.in_ok-refolded.ensures.ready.inside in
    let short = rw (← c.self.view_is, ← c.in_ok-refolded.ensures.change) at c.requires.short in
    spliced_fits c.self.inside.folded.stream c.self.inside.periods.periods c.self.invariant c.in_ok-refolded.refolded
    c.in_ok-refolded.ensures.anew inside c.begin.result c.end-end.result c.deref.result.now c.begin.ensures
    (c.end-end.ensures ∙ ap (λ (stream : Stream). end_in c.in_ok-refolded.refolded stream) kept)
    (c.deref.ensures.value ∙ c.in_ok-shown.ensures ∙ ap (map shown_of) c.outcomes.ensures) short

pub returns-clause-ready : goal.returns-clause-ready
returns-clause-ready c =
    let kept = c.in_ok-refolded.ensures.kept in
    let inside = rw kept at c.in_ok-refolded.ensures.ready.inside in
    rw c.in_ok-reserve.ensures.ok (record {
      refolded = c.in_ok-refolded.ensures.ready;
      can = c.in_ok-splice.ensures.splice.can;
      spare = omega (arith, c.len.ensures);
      does =
          rw kept
          (ordered_after c.self.inside.folded.stream c.self.inside.periods.periods c.self.invariant c.in_ok-refolded.refolded
          c.in_ok-refolded.ensures.anew inside c.begin.result c.end-end.result c.deref.result.now c.begin.ensures
          (c.end-end.ensures ∙ ap (λ (stream : Stream). end_in c.in_ok-refolded.refolded stream) kept)
          (c.deref.ensures.value ∙ c.in_ok-shown.ensures ∙ ap (map shown_of) c.outcomes.ensures)
          c.in_ok-splice.splice c.in_ok-splice.ensures.splice);
    })

pub returns-clause-few : goal.returns-clause-few
returns-clause-few c = rw (← c.self.view_is) c.in_ok-refolded.ensures.few
