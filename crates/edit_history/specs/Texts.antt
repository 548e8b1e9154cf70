-- The texts of a stream's units, in decoding order.
use Rattle.std.specs.Prelude.{◌≡◌, ℕ, List, [], ◌∷◌, ⊤}
use Rattle.access_unit.specs.Answers.{IsAccepted}
use Rattle.stream_edits.specs.Edits.{Register}
use Rattle.stream_edits.specs.Ids.{HasIds}
use Rattle.stream_edits.specs.Streams.{Stream, ids_of}

-- the texts alone, without ids
abbrev pub Texts : Type 0
Texts = List (List ℕ)

-- each unit is what its text is read as
abbrev pub Carries : Stream → Texts → Type 0
Carries [] [] = ⊤
Carries (unit ∷ units) (text ∷ texts) = IsAccepted text unit.1 × Carries units texts
Carries [] (text ∷ texts) = ⊥
Carries (unit ∷ units) [] = ⊥

-- the units have these texts and these ids, and so many ids were given
pub record IsStream (register : Register) (texts : Texts) (ids : List ℕ) (ids_given : ℕ) : Type 0 where
  pub differ : HasIds register
  pub carries : Carries register.stream texts
  pub ids_are : ids ≡ ids_of register.stream
  pub given_is : ids_given ≡ register.ids_given
