-- What `mend` writes of a text and tells (docs/OUTPUT.md).
use Rattle.std.specs.Prelude.{◌≡◌, ℕ, ◌++◌, List, [], Option, Some, Result, codes}
use Rattle.std.specs.List.{flat_map}
use Rattle.std.specs.Io.KnownBytes.{Appends, prepend_known}
use Rattle.console_io.specs.Chunks.{AppendsFront}
use Rattle.console_io.specs.Messages.{Tells, out_of_memory, unread_text}
use Rattle.console_io.specs.declared.chunks.PrintFault.{PrintFault}
use Rattle.console_io.specs.declared.input.InputFault.{InputFault}
use Rattle.console_io.specs.declared.input.InputFault.TheVariants as input
use Rattle.stream_mending.specs.Mended.{mended, told}
use Rattle.stream_mending.specs.Mending.{IsFrontOf, IsMendedUpTo}
use Rattle.stream_mending.specs.Told.{left_out_text}
use Rattle.stream_mending.specs.declared.mender.Mender.{Mender}
use Rattle.stream_mending.specs.declared.why.LeftOut.{LeftOut}
use Rattle.mend_run.specs.declared.running.MendFault.{MendFault}
use Rattle.mend_run.specs.declared.running.MendFault.TheVariants.{Unread, Memory, Unwritten}

-- the lines that tell these
abbrev pub told_text : List LeftOut → List ℕ
told_text told = flat_map (λ left_out. left_out_text left_out ++ codes "\n") told

-- the lines that tell what is left out of a text
abbrev pub mend_lines : List ℕ → List ℕ
mend_lines text = told_text (told text)

-- what was written of a text that wasn't mended to its end, by this fault: a front of what would have been
abbrev pub EndsBy : List ℕ → MendFault → Type 0 → Option (List ℕ) → Option (List ℕ) → Type 0
EndsBy text Unread refused old new = AppendsFront old new (mended text)
EndsBy text Memory refused old new = AppendsFront old new (mended text)
EndsBy text Unwritten refused old new = refused × AppendsFront old new (mended text)

-- of the input
abbrev pub fault_of_input : InputFault → MendFault
fault_of_input input.Unread = Unread
fault_of_input input.Memory = Memory

-- what is said of the fault; nothing where it is the writer that takes no more
abbrev pub mend_fault_text : List ℕ → MendFault → List ℕ
mend_fault_text name Unread = unread_text name
mend_fault_text name Memory = out_of_memory
mend_fault_text name Unwritten = []

-- what was written of bytes that weren't passed on, by this fault: nothing, or a front where the writer refused
abbrev pub PassesFront : MendFault → Type 0 → Option (List ℕ) → Option (List ℕ) → List ℕ → Type 0
PassesFront Unread refused old new bytes = ⊥
PassesFront Memory refused old new bytes = new ≡ old
PassesFront Unwritten refused old new bytes = refused × AppendsFront old new bytes

-- these bytes are left of a text, held and then in a reader whose bytes are known
abbrev pub AreLeft : List ℕ → Option (List ℕ) → List ℕ → Type 0
AreLeft held known left = prepend_known held known ≡ Some left

-- so much is mended of a text and written, and told as long as one listens; of the text these bytes are held, and the
-- rest is in its reader
pub record IsSoFar {T : Type 0} (known : Option (List ℕ)) (mender : Mender) (held : List ℕ) (rest had has : Option (List ℕ))
    (mute : Type 0) (heard hears : Option (List ℕ)) (listens : Result T PrintFault) : Type 0 where
  pub written : List ℕ
  pub said : List LeftOut
  pub got : Appends had has written
  pub tells : Tells listens mute heard hears (told_text said)
  pub mends : (text : List ℕ) → known ≡ Some text
      → (left : List ℕ) × AreLeft held rest left × IsMendedUpTo text written said left mender

-- the whole text was mended, written and told
pub record IsWhole {T : Type 0} (known had has : Option (List ℕ)) (mute : Type 0) (heard hears : Option (List ℕ))
    (listens : Result T PrintFault) : Type 0 where
  pub said : List LeftOut
  pub tells : Tells listens mute heard hears (told_text said)
  pub mends : (text : List ℕ) → known ≡ Some text → Appends had has (mended text) × (said ≡ told text)

-- a fault came: a front was written, and a front of what is left out was told
pub record IsBroken {T : Type 0} (known : Option (List ℕ)) (fault : MendFault) (refused : Type 0) (had has : Option (List ℕ))
    (mute : Type 0) (heard hears : Option (List ℕ)) (listens : Result T PrintFault) : Type 0 where
  pub said : List LeftOut
  pub tells : Tells listens mute heard hears (told_text said)
  pub ends : (text : List ℕ) → known ≡ Some text → EndsBy text fault refused had has × IsFrontOf said (told text)
