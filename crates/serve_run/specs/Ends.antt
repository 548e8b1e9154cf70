-- How a server ends.
use Rattle.std.specs.Prelude.{ℕ, List, [], codes}
use Rattle.console_io.specs.Messages.{line_text, out_of_memory, unread_text}
use Rattle.edit_journal.specs.declared.fault.JournalFault.{JournalFault}
use Rattle.edit_journal.specs.declared.fault.JournalFault.TheVariants as journal
use Rattle.serve_run.specs.declared.end.ServeEnd.{ServeEnd}
use Rattle.serve_run.specs.declared.line_writer.Fault.{Fault}
use Rattle.serve_run.specs.declared.line_writer.Fault.TheVariants as fault
use Rattle.serve_run.specs.declared.end.ServeEnd.TheVariants.{Done, Memory, Unread, Unreplayed, Unwritten}

-- what is told of an end
abbrev pub end_text : ServeEnd → List ℕ
end_text Done = []
end_text Unread = unread_text (codes "-")
end_text Unwritten = []
end_text Memory = out_of_memory
end_text Unreplayed = line_text (codes "the stream refuses a record of the ") (codes "journal")

-- what is told of a journal's fault before the name of the file
abbrev pub fault_front : JournalFault → List ℕ
fault_front journal.NotAJournal = codes "not a journal: "
fault_front journal.Locked = codes "another process has the journal open: "
fault_front journal.Damaged = codes "the journal is damaged: "
fault_front journal.Full = codes "the disk has no room for the journal: "
fault_front journal.Failed = codes "cannot read or write the journal: "
fault_front journal.Shut = codes "cannot read or write the journal: "
fault_front journal.TooLarge = codes "cannot read or write the journal: "
fault_front journal.Memory = codes "no memory for the journal: "

-- why the journal of this name isn't opened
abbrev pub journal_fault_text : List ℕ → JournalFault → List ℕ
journal_fault_text name journal.NotAJournal = line_text (fault_front journal.NotAJournal) name
journal_fault_text name journal.Locked = line_text (fault_front journal.Locked) name
journal_fault_text name journal.Damaged = line_text (fault_front journal.Damaged) name
journal_fault_text name journal.Full = line_text (fault_front journal.Full) name
journal_fault_text name journal.Failed = line_text (fault_front journal.Failed) name
journal_fault_text name journal.Shut = line_text (fault_front journal.Shut) name
journal_fault_text name journal.TooLarge = line_text (fault_front journal.TooLarge) name
journal_fault_text name journal.Memory = out_of_memory

-- how a server ends that can't write a line
abbrev pub end_of : Fault → ServeEnd
end_of fault.Unwritten = Unwritten
end_of fault.Memory = Memory
