-- Syntax structures one after the other, where a later one may depend on what an earlier one says (ITU-T H.264, 7.3).
use Rattle.std.specs.Prelude.{◌≡◌, ℕ, zero, suc, Bool, true, false, List, [], ◌∷◌, ◌++◌, Option, Some, None, Result, Ok, ℤ, ◌⊎◌}
use Rattle.expgolomb.specs.Bits.{Place}
use Rattle.expgolomb.specs.Grammar.{Row, Header, values, HasRows, HasFault}
use Rattle.expgolomb.specs.TableReading.{rows_at}
use Rattle.h264_types.specs.Chains.{◌>>=◌}

-- A syntax structure: what its fields say, its rows, and what is inferred of fields that stay absent.
pub record Table (F S E : Type 0) : Type 0 where
  pub take : F → ℤ → S → S
  pub rows : List (Row F S E)
  pub absent : S

-- A structure and what follows from its values; the place that is reached and what follows from it; in the end, what
-- all of it says.
pub data Syntax (A E : Type 0) : Type 1 where
  Says : A → Syntax A E
  Here : (ℕ → Syntax A E) → Syntax A E
  Structure : {F S : Type 0} → Table F S E → (S → Syntax A E) → Syntax A E

-- syntax, and after it what follows from what it says
unfoldable pub followed_by : {A B E : Type 0} → Syntax A E → (A → Syntax B E) → Syntax B E
followed_by (Says a) more = more a
followed_by (Here next) more = Here (λ place. followed_by (next place) more)
followed_by (Structure table next) more = Structure table (λ s. followed_by (next s) more)

-- so many of one kind, after those that are there
unfoldable pub counted : {X E : Type 0} → Syntax X E → ℕ → List X → Syntax (List X) E
counted item zero items = Says items
counted item (suc n) items = followed_by item (λ x. counted item n (items ++ x ∷ []))

-- the end of a list, or one more
abbrev pub end_or : {X E : Type 0} → List X → (List X → Syntax (List X) E) → Option X → Syntax (List X) E
end_or items more None = Says items
end_or items more (Some x) = more (items ++ x ∷ [])

-- items up to an end, for as many as there is room; whether there is room for one is told to its table
unfoldable pub ended : {F X E : Type 0} → (Bool → Table F (Option X) E) → ℕ → List X → Syntax (List X) E
ended table zero items = Structure (table false) (λ item. Says items)
ended table (suc room) items = Structure (table true) (λ item. end_or items (λ more. ended table room more) item)

-- the fields of the structure stand at p and say s, and q is the place after them
pub record HasTable {F S E : Type 0} (table : Table F S E) (p : Place) (s : S) (q : Place) : Type 0 where
  pub header : Header F
  pub rows : HasRows table.take table.rows table.absent p header q
  pub values : values table.take table.absent header ≡ s

-- the structures stand at p and say this, and q is the place after them
abbrev pub HasSyntax : {A E : Type 0} → Syntax A E → Place → A → Place → Type 0
HasSyntax (Says a) p said q = (said ≡ a) × (q ≡ p)
HasSyntax (Here next) p said q = HasSyntax (next p.before) p said q
HasSyntax (Structure {F} {S} table next) p said q =
    (s : S) × (mid : Place) × HasTable table p s mid × HasSyntax (next s) mid said q

-- the first field that shows a fault shows this one
abbrev pub SyntaxHasFault : {A E : Type 0} → Syntax A E → Place → E → Type 0
SyntaxHasFault (Says a) p e = ⊥
SyntaxHasFault (Here next) p e = SyntaxHasFault (next p.before) p e
SyntaxHasFault (Structure {F} {S} table next) p e =
    HasFault table.take table.rows table.absent p e
    ⊎ ((s : S) × (mid : Place) × HasTable table p s mid × SyntaxHasFault (next s) mid e)

-- the same as functions of the place
unfoldable pub table_at : {F S E : Type 0} → Table F S E → Place → Result (S × Place) E
table_at table p = rows_at table.take table.rows table.absent p

unfoldable pub syntax_at : {A E : Type 0} → Syntax A E → Place → Result (A × Place) E
syntax_at (Says a) p = Ok (a, p)
syntax_at (Here next) p = syntax_at (next p.before) p
syntax_at (Structure table next) p = table_at table p >>= (λ x. syntax_at (next x.0) x.1)
