use Rattle.std.proofs.Common.{◌∙◌, ◌++◌, ◌∷◌, [], arith, ap, length}
use Rattle.draw_run.proofs.Chosen.{chosen-more, chosen-stays}
use Rattle.draw_run.proofs.drawn_fold.keep.Goals as goal

pub returns-then-not-is_shown-clause-kept : goal.returns-then-not-is_shown-clause-kept
returns-then-not-is_shown-clause-kept c = λ all old id_is.
    old ∙ chosen-stays c.args.choice.from c.args.choice.units _ all c.args.unit id_is (omega (arith, c.len.ensures, c.args.kept.now.ok.0, ap length old))
    (c.is_shown.ensures.no c.if-not-is_shown.true)

pub returns-clause-kept : goal.returns-clause-kept
returns-clause-kept c = λ all old id_is.
    let yes = c.is_shown.ensures.yes c.if-not-is_shown.false in
    c.in_ok-push.ensures.items ∙ ap (λ l. l ++ c.args.unit ∷ []) old
    ∙ chosen-more c.args.choice.from c.args.choice.units all c.args.unit yes.0 (omega (arith, yes.1, id_is))
    (omega (arith, yes.2, c.len.ensures, c.args.kept.now.ok.0, ap length old))
