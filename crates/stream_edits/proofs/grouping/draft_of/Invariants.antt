use Rattle.std.proofs.Common.{take}
use Rattle.stream_edits.specs.Drafts.{IsDraft}
use Rattle.stream_edits.proofs.grouping.draft_of.Given as goal

-- the edits so far are made
abbrev pub invariant-loop-index : goal.invariant-loop-index
invariant-loop-index l = IsDraft (record { ids_given = l.fn.ids_given; stream = l.fn.units }) (take l.index l.read) l.draft
