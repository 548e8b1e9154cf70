use Rattle.std.proofs.Common.{◌<◌, List, ℕ, length, sym, subst, arith}
use Rattle.stream_edits.specs.declared.edits.Edit.TheVariants.{Delete}
use Rattle.edit_history.specs.Groups.{Leads}
use Rattle.edit_history.proofs.Led.{Leads-deleted}
use Rattle.edit_history.proofs.draft.TextDraft.delete.Goals as goal

pub returns-clause-makes : goal.returns-clause-makes
returns-clause-makes c = λ old before after text is more.
    let ids = c.args.self.now.ids in
    let given = c.args.self.now.ids_given in
    let within : c.args.at < length ids.items = omega (arith, c.if-at-len.false, c.len.ensures, ids.ok) in
    subst (λ (left : List ℕ). Leads old (Delete c.remove.result) after left given) (sym c.remove.ensures.items)
    (Leads-deleted old before after ids.items given c.args.at c.remove.result text is more within c.remove.ensures.value)
