use Rattle.std.proofs.Common.{ap, length, arith}
use Rattle.std.proofs.lemmas.Result.{IfOk-weaker}
use Rattle.draw_run.specs.Layouts.{IsLaidOut}
use Rattle.draw_run.proofs.Keyless.{length-ids}
use Rattle.draw_run.proofs.document.document_of.Goals as goal

pub doubts-requires : goal.doubts-requires
doubts-requires c =
    omega (
      arith,
      c.chosen_from-chosen.ensures.within,
      ap length c.ids-ids.ensures,
      length-ids c.args.session.now.register.stream,
    )

pub returns : goal.returns
returns c =
    let units = c.in_ok-shown.shown.units.items in
    let laid_out : IsLaidOut units c.in_ok-layout.layout = record {
      units_are = rw c.deref-2.ensures.value at c.in_ok-layout.ensures.units;
      all = rw c.deref-2.ensures.value at c.in_ok-layout.ensures.all;
      order = c.in_ok-layout.ensures.order;
    } in
    IfOk-weaker c.document.result _ _
    (λ document text_is. record {
      doubts = c.in_ok-doubts.doubts.items;
      doubts_are = rw (c.chosen_from-chosen.ensures.value, c.start_among-start.ensures.value, c.ids-ids.ensures)
          at c.in_ok-doubts.ensures;
      drawn = units;
      captions = c.in_ok-shown.shown.captions.items;
      shown = rw (c.deref.ensures.value, c.chosen_from-chosen.ensures.value, c.start_among-start.ensures.value, c.ids-ids.ensures)
          at c.in_ok-shown.ensures.shown;
      layout = c.in_ok-layout.layout;
      laid_out = laid_out;
      document_is = text_is;
    })
    (rw (c.deref-3.ensures.value, c.deref-4.ensures.value, c.ids-ids.ensures) at c.document.ensures)
