use Rattle.std.proofs.Common.{◌∙◌, ap, sym, length}
use Rattle.std.proofs.lemmas.List.FromFn.{length-map-range_with_len}
use Rattle.std.proofs.lemmas.Result.{on_ok_weaker}
use Rattle.console_io.proofs.Chunked.{adds-all, adds-rest, front-either}
use Rattle.output_order.specs.OutputOrder.{position_at, positions_of}
use Rattle.plan_stream.proofs.KeptTexts.{kept_all}
use Rattle.plan_stream.proofs.printing.print_all.Goals as goal

pub print_lines-requires-clause-positions : goal.print_lines-requires-clause-positions
print_lines-requires-clause-positions g c =
    let outcomes = c.deref.result.now in
    ap length c.deref-3.ensures.value
    ∙ (ap length c.in_ok-positions.ensures ∙ (length-map-range_with_len (position_at outcomes) 0 (length outcomes)
    ∙ ap length (c.deref.ensures.value ∙ sym c.deref-2.ensures.value)))

pub returns-in_err-print_lines-clause-written : goal.returns-in_err-print_lines-clause-written
returns-in_err-print_lines-clause-written g c = λ done is.
    let placed = c.in_ok-positions.ensures ∙ ap positions_of c.deref.ensures.value in
    let text = kept_all done c.args.fold.now c.in_ok-positions.positions.items is placed in
    rw (c.new-chunks.ensures, c.deref-2.ensures.value, c.deref-3.ensures.value, text) at c.in_err-print_lines.ensures.written

pub returns-clause-ok : goal.returns-clause-ok
returns-clause-ok g c = λ done is.
    let placed = c.in_ok-positions.ensures ∙ ap positions_of c.deref.ensures.value in
    let text = kept_all done c.args.fold.now c.in_ok-positions.positions.items is placed in
    let added = rw (c.deref-2.ensures.value, c.deref-3.ensures.value, text) at c.in_ok-print_lines.ensures.ok in
    on_ok_weaker c.pass_on.result (adds-all _ _ _ _ _ _ c.new-chunks.ensures added) c.pass_on.ensures.ok

pub returns-clause-written : goal.returns-clause-written
returns-clause-written g c = λ done is.
    let placed = c.in_ok-positions.ensures ∙ ap positions_of c.deref.ensures.value in
    let text = kept_all done c.args.fold.now c.in_ok-positions.positions.items is placed in
    let added = rw (c.deref-2.ensures.value, c.deref-3.ensures.value, text) at c.in_ok-print_lines.ensures.ok in
    let rest = front-either c.pass_on.result _ _ _ c.pass_on.ensures.ok c.pass_on.ensures.unwritten in
    let all = adds-rest _ _ _ _ _ _ added rest in
    rw c.new-chunks.ensures at all
