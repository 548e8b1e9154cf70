use Rattle.std.proofs.Common.{◌+◌, ◌-◌, ◌∙◌, ◌++◌, ◌∷◌, [], Some, replicate, length, arith, rules, sym}
use Rattle.std.proofs.lemmas.Int.{to_z-of_z}
use Rattle.std.proofs.lemmas.Result.{err_from_is_err_and}
use mir.Val.{SFits}
use mir.Syntax.{w8}
use Rattle.expgolomb.specs.TableReading.{rows_at}
use Rattle.param_sets.specs.Scaling.{take_list, delta_row}
use Rattle.param_sets.proofs.ListRows.{delta_more, delta_none, delta_end, delta_all, scale_more}
use Rattle.param_sets.proofs.Refusals.{refused}
use Rattle.param_sets.proofs.scaling_list.deltas.Goals as goal

pub returns-then-next-eq0 : goal.returns-then-next-eq0
returns-then-next-eq0 c lists =
    c.loop-i.invariant.whole lists ∙ delta_end lists c.loop-i.list (c.args.size - c.loop-i._i) c.loop-i.bits (c.loop-i.invariant.scale ∙ c.if-next-eq0.true)

pub returns-in_err-delta : goal.returns-in_err-delta
returns-in_err-delta c lists =
    let x = err_from_is_err_and c.from_residual.result c.from_residual.ensures.1 in
    let e = c.in_err-delta.field-0.0 in
    let w = c.loop-i.invariant in
    let read = w.whole lists ∙ delta_none lists c.loop-i.list e (c.args.size - (c.loop-i._i + 1)) (c.args.size - c.loop-i._i) c.loop-i.next c.loop-i.bits (omega arith) w.scale c.if-next-eq0.false c.in_err-delta.ensures in
    rw (x.1, x.2) (refused e (rows_at take_list (replicate c.args.size (delta_row (length lists))) (lists ++ Some [] ∷ []) c.args.bits.now) read)

pub loop-i-preserved : goal.loop-i-preserved
loop-i-preserved c =
    let w = c.loop-i.invariant in
    let fits : SFits w8 c.in_ok-delta.delta = search rules in
    let pushed = rw (to_z-of_z w8 c.in_ok-delta.delta fits) at c.in_ok-push.ensures.pushed in
    let after = rw (to_z-of_z w8 c.in_ok-delta.delta fits) at c.scale_after-next.ensures in
    record {
      scale = scale_more c.loop-i.list c.push.new.self c.in_ok-delta.delta c.loop-i.next w.scale pushed ∙ sym after;
      whole = λ lists. w.whole lists ∙ delta_more lists c.loop-i.list c.push.new.self c.in_ok-delta.delta (c.args.size - (c.loop-i._i + 1)) (c.args.size - c.loop-i._i) c.loop-i.next c.loop-i.bits c.small.new.bits (omega arith) w.scale c.if-next-eq0.false c.in_ok-delta.ensures pushed;
    }

pub returns : goal.returns
returns c lists =
    c.loop-i.invariant.whole lists ∙ delta_all lists c.loop-i.list (c.args.size - c.loop-i._i) c.loop-i.bits (omega arith)
