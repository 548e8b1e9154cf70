-- Commands that are answered one after the other, by whatever answers them, and what is written of
-- that (docs/OUTPUT.md).
use Rattle.std.specs.Prelude.{◌≡◌, ℕ, ◌++◌, List, [], ◌∷◌, Option, ◌⊎◌}
use Rattle.std.specs.Io.KnownBytes.{Appends}
use Rattle.console_io.specs.Chunks.{AppendsFront}
use Rattle.script_run.specs.declared.run_fault.RunFault.{RunFault}
use Rattle.script_run.specs.declared.run_fault.RunFault.TheVariants.{Unwritten}

module _ {S C : Type 0} (answers : S → C → List ℕ → S → Type 0) where
  -- the commands are answered one after the other, by these lines in all
  abbrev pub AreAnswered : S → List C → List ℕ → S → Type 0
  AreAnswered from [] lines to = (lines ≡ []) × (to ≡ from)
  AreAnswered from (command ∷ commands) lines to =
      (front : List ℕ) × (rest : List ℕ) × (next : S) × answers from command front next
      × AreAnswered next commands rest to × (lines ≡ front ++ rest)

  -- the lines that answer the commands were written
  abbrev pub AreWritten : S → List C → S → Option (List ℕ) → Option (List ℕ) → Type 0
  AreWritten from commands to old new = (lines : List ℕ) × AreAnswered from commands lines to × Appends old new lines

module _ {S C : Type 0} (answers : S → C → List ℕ → S → Type 0) (is_fault : C → RunFault → Type 0) where
  -- a command isn't answered by this fault, and nothing more was written; or its answer is these
  -- lines, of which the writer took a front and then refused
  abbrev pub StopsIn : S → C → List ℕ → RunFault → Type 0 → Option (List ℕ) → Option (List ℕ) → Type 0
  StopsIn from command before fault refused old new =
      (is_fault command fault × Appends old new before)
      ⊎ ((fault ≡ Unwritten) × refused × ((lines : List ℕ) × (to : S) × answers from command lines to
      × AppendsFront old new (before ++ lines)))

  -- the commands stop at one of them: those before it were answered, and that was written
  pub record StopsAmong (from : S) (commands : List C) (fault : RunFault) (refused : Type 0) (old new : Option (List ℕ)) : Type 0 where
    pub before : List C
    pub command : C
    pub after : List C
    pub are : commands ≡ before ++ command ∷ after
    pub between : S
    pub lines : List ℕ
    pub ran : AreAnswered answers from before lines between
    pub stops : StopsIn between command lines fault refused old new
