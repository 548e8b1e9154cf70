-- Files that are saved whole.
use Rattle.std.specs.Prelude.{◌≡◌, ℕ, List, Option, IfSome, Result, Ok, Err, flat_map}
use Rattle.console_io.specs.declared.file_saving.folder.Unsaved.{Unsaved}

-- the bytes of texts, one after the other
abbrev pub joined : List (List ℕ) → List ℕ
joined texts = flat_map (λ text. text) texts

-- each file has what it had, where that is known
abbrev pub AreKept : (List ℕ → Option (List ℕ)) → (List ℕ → Option (List ℕ)) → Type 0
AreKept old new = (name : List ℕ) → new name ≡ old name

-- the file of a name has these bytes, where that is known, and each other one has what it had
pub record IsSaved (old : List ℕ → Option (List ℕ)) (name bytes : List ℕ) (new : List ℕ → Option (List ℕ)) : Type 0 where
  pub saved : IfSome (new name) (λ it. it ≡ bytes)
  pub others : (other : List ℕ) → ¬ (other ≡ name) → new other ≡ old other

-- a file is saved so; or it isn't, and each file has what it had
abbrev pub Saves : (List ℕ → Option (List ℕ)) → List ℕ → List ℕ → Result (Unit {0}) Unsaved → (List ℕ → Option (List ℕ)) → Type 0
Saves old name bytes (Ok it) new = IsSaved old name bytes new
Saves old name bytes (Err unsaved) new = AreKept old new
