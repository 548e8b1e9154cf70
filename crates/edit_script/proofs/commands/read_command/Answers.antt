use Rattle.std.proofs.Common.{◌∙◌, sym}
use Rattle.edit_script.proofs.Wanting.{lent_wanted_none, match_err}
use Rattle.edit_script.proofs.commands.read_command.Goals as goal

pub returns-in_err-read_ids-in-len1-up : goal.returns-in_err-read_ids-in-len1-up
returns-in_err-read_ids-in-len1-up c =
    match_err c.from_residual.result _ _ _ c.from_residual.ensures.1
    (λ fault is wrong. lent_wanted_none c.args.words.now _ c.in-len1-up.len_at_least (sym c.eq.ensures ∙ c.if-eq.true)
    (c.in_err-read_ids-in-len1-up.ensures (sym is ∙ wrong)))
