use Rattle.std.proofs.Common.{◌<◌, length, arith}
use Rattle.edit_history.proofs.Led.{Leads-replaced}
use Rattle.edit_history.proofs.draft.TextDraft.replace.Goals as goal

pub returns-clause-makes : goal.returns-clause-makes
returns-clause-makes c = λ old before after others former is fewer more.
    let ids = c.args.self.now.ids in
    let within : c.args.at < length ids.items = omega (arith, c.if-at-len.false, c.len.ensures, ids.ok) in
    rw (c.in_ok-clone.ensures.cases)
    (Leads-replaced old before after others ids.items c.args.self.now.ids_given c.args.at _ former c.args.text.now is fewer more within c.index.ensures)
