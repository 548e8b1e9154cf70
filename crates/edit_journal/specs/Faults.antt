-- How a journal tells a failure of its store, and when each fault comes.
use Rattle.std.specs.Prelude.{◌≡◌, ◌≢◌, Bool, true, false, IsTrue, Option, Some, ⊤}
use Rattle.sqlite_trees.specs.View.{View}
use Rattle.sqlite_trees.specs.declared.store.Shape.TheVariants.{Table}
use Rattle.sqlite_trees.specs.declared.error.StoreError.{StoreError}
use Rattle.sqlite_trees.specs.declared.error.StoreError.TheVariants.{OutOfMemory, Io, Corrupt, Full as NoRoom, Broken, Unstorable}
use Rattle.edit_journal.specs.declared.fault.JournalFault.{JournalFault}
use Rattle.edit_journal.specs.declared.fault.JournalFault.TheVariants.{NotAJournal, Locked, Damaged, Full, Failed, Shut, TooLarge, Memory}
use Rattle.edit_journal.specs.Lines.{edit_tree}

-- the fault for a store's error
abbrev pub fault_of : StoreError → JournalFault
fault_of OutOfMemory = Memory
fault_of Io = Failed
fault_of Corrupt = Damaged
fault_of NoRoom = Full
fault_of Broken = Shut
fault_of Unstorable = TooLarge

-- the fault tells of the disk
abbrev pub is_of_disk : JournalFault → Bool
is_of_disk NotAJournal = false
is_of_disk Locked = false
is_of_disk Damaged = true
is_of_disk Full = true
is_of_disk Failed = true
is_of_disk Shut = false
is_of_disk TooLarge = false
is_of_disk Memory = false

-- why a call may fail, where `disk` says that the disk failed or refused during it, and `large` that there is no room
abbrev pub HasReason : View → Type 0 → Type 0 → JournalFault → Type 0
HasReason v disk large NotAJournal = v.shape edit_tree ≢ Table
HasReason v disk large Locked = ⊥
HasReason v disk large Damaged = disk
HasReason v disk large Full = disk
HasReason v disk large Failed = disk
HasReason v disk large Shut = IsTrue v.is_broken
HasReason v disk large TooLarge = large
HasReason v disk large Memory = ⊤

-- a fault of the disk is told as the kind that the store last answered, where it keeps that
abbrev pub TellsFault : Option StoreError → JournalFault → Type 0
TellsFault blamed fault = (kind : StoreError) → blamed ≡ Some kind → IsTrue (is_of_disk fault) → fault ≡ fault_of kind
