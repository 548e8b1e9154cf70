use Rattle.std.proofs.Common.{[], take}
use Rattle.console_io.specs.Saved.{AreKept, joined}
use Rattle.console_io.proofs.file_saving.folder.add_all.Given as goal

-- the texts so far are in the draft, and each file has what it had
abbrev pub invariant-loop-text : goal.invariant-loop-text
invariant-loop-text g l =
    (g.F.Folder.has_draft l.fn.folder [] → g.F.Folder.has_draft l.folder (joined (take l.text-index l.texts)))
    × AreKept (g.F.Folder.file l.fn.folder) (g.F.Folder.file l.folder)
