use Rattle.std.proofs.Common.{◌+◌, ◌≤◌}
use Rattle.stream_edits.specs.Edits.{Register}
use Rattle.edit_history.specs.Changes.{ChangesAll}
use Rattle.edit_history.specs.Texts.{Texts, IsStream}
use Rattle.edit_history.proofs.Changed.{IsPartly}
use Rattle.edit_history.proofs.draft.TextDraft.make_all.Given as goal

-- the edits so far make the changes so far, and few ids were given for them
abbrev pub invariant-loop-change : goal.invariant-loop-change
invariant-loop-change l = record {
  made : (old : Register) (before after : Texts) → IsStream old before l.fn.self.ids.items l.fn.self.ids_given → ChangesAll before l.changes after
      → IsPartly old l.edits.items l.changes l.change-index l.self.ids.items l.self.ids_given after;
  few : l.self.ids_given ≤ l.fn.self.ids_given + l.change-index;
}
