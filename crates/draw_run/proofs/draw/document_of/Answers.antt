use Rattle.std.proofs.Common.{◌≡◌, length, arith}
use Rattle.std.proofs.lemmas.Result.{IfOk-weaker}
use Rattle.draw_run.specs.Layouts.{IsLaidOut}
use Rattle.draw_run.proofs.Documents.{is-drawn}
use Rattle.draw_run.proofs.draw.document_of.Goals as goal

pub returns : goal.returns
returns c = λ first text is.
    let fold = c.args.fold.now in
    let units = c.in_ok-shown.shown.units.items in
    let places = rw c.deref.ensures.value at c.in_ok-positions.ensures in
    let shown = rw (c.deref-2.ensures.value, c.deref-3.ensures.value, c.deref-4.ensures.value) at c.in_ok-shown.ensures in
    let laid_out : IsLaidOut units c.in_ok-layout.layout = record {
      units_are = rw c.deref-5.ensures.value at c.in_ok-layout.ensures.units;
      all = rw c.deref-5.ensures.value at c.in_ok-layout.ensures.all;
      order = c.in_ok-layout.ensures.order;
    } in
    let long : c.len.result ≡ length fold.outcomes.items = omega (arith, c.len.ensures, fold.outcomes.ok.0) in
    IfOk-weaker c.document.result _ _
    (λ document text_is. is-drawn first text fold c.in_ok-positions.positions.items units c.in_ok-shown.shown.captions.items
    c.in_ok-layout.layout document.items is places shown laid_out text_is)
    (rw (c.deref-6.ensures.value, c.deref-7.ensures.value, long) at c.document.ensures)
