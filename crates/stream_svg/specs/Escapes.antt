-- Text in XML: characters and the references that stand for them (XML 1.0, 2.4 and 4.6).
use Rattle.std.specs.Prelude.{◌≢◌, ℕ, ◌==◌, ◌++◌, List, [], ◌∷◌, codes, if◌then◌else◌}
use Rattle.std.specs.List.{flat_map}

-- what a byte of a text is written as: " & ' < > as a reference, each other byte as itself
abbrev pub mark_of : ℕ → List ℕ
mark_of byte =
    if byte == 34 then codes "&quot;"
    else if byte == 38 then codes "&amp;"
    else if byte == 39 then codes "&#39;"
    else if byte == 60 then codes "&lt;"
    else if byte == 62 then codes "&gt;"
    else byte ∷ []

-- what a text is written as
abbrev pub escaped : List ℕ → List ℕ
escaped text = flat_map mark_of text

-- a byte that has no meaning, or begins a reference
abbrev pub IsHarmless : ℕ → Type 0
IsHarmless byte = (byte ≢ 34) × (byte ≢ 39) × (byte ≢ 60) × (byte ≢ 62)

-- these bytes of a document are read as this text: references as what they stand for, others that aren't & as themselves
pub data ReadsAs : List ℕ → List ℕ → Type 0 where
  nothing : ReadsAs [] []
  quot : (marks text : List ℕ) → ReadsAs marks text → ReadsAs (codes "&quot;" ++ marks) (34 ∷ text)
  amp : (marks text : List ℕ) → ReadsAs marks text → ReadsAs (codes "&amp;" ++ marks) (38 ∷ text)
  apos : (marks text : List ℕ) → ReadsAs marks text → ReadsAs (codes "&#39;" ++ marks) (39 ∷ text)
  lt : (marks text : List ℕ) → ReadsAs marks text → ReadsAs (codes "&lt;" ++ marks) (60 ∷ text)
  gt : (marks text : List ℕ) → ReadsAs marks text → ReadsAs (codes "&gt;" ++ marks) (62 ∷ text)
  other : (byte : ℕ) (marks text : List ℕ) → byte ≢ 38 → ReadsAs marks text → ReadsAs (byte ∷ marks) (byte ∷ text)
