-- What the text of an edit is read as, and how many bytes reading it hashes.
use Rattle.std.specs.Prelude.{◌≡◌, ℕ, ◌+◌, ◌≤◌, List, [], ◌∷◌, length, Option, None, Some, ⊤}
use Rattle.access_unit.specs.Answers.{IsAccepted}
use Rattle.picture_keys.specs.Digests.{slice_bytes}
use Rattle.stream_edits.specs.declared.edits.Edit.{Edit}
use Rattle.stream_edits.specs.declared.edits.Edit.TheVariants.{Insert, Delete, Replace}

-- the unit is that of the edit's text; an edit without a text has none
abbrev pub IsUnitOf : Edit → Option (List (List ℕ)) → Type 0
IsUnitOf (Insert place text) (Some unit) = IsAccepted text unit
IsUnitOf (Insert place text) None = ⊥
IsUnitOf (Delete id) (Some unit) = ⊥
IsUnitOf (Delete id) None = ⊤
IsUnitOf (Replace id text) (Some unit) = IsAccepted text unit
IsUnitOf (Replace id text) None = ⊥

-- reading the text hashes so many bytes: each byte of the slices of its unit once, and so no more
-- than the text has
pub record IsHashedText (text : List ℕ) (hashed : ℕ) : Type 0 where
  pub unit : List (List ℕ)
  pub accepted : IsAccepted text unit
  pub hashed_is : hashed ≡ slice_bytes unit
  pub within : hashed ≤ length text

-- reading the edit hashes so many bytes
abbrev pub IsHashedFor : Edit → ℕ → Type 0
IsHashedFor (Insert place text) hashed = IsHashedText text hashed
IsHashedFor (Delete id) hashed = hashed ≡ 0
IsHashedFor (Replace id text) hashed = IsHashedText text hashed

-- reading the edits hashes so many bytes in all
abbrev pub AreHashedFor : List Edit → ℕ → Type 0
AreHashedFor [] hashed = hashed ≡ 0
AreHashedFor (edit ∷ edits) hashed =
    (first : ℕ) × (others : ℕ) × IsHashedFor edit first × AreHashedFor edits others × (hashed ≡ first + others)
