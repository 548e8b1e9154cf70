-- Syntax tables, and the headers that they describe (ITU-T H.264, 7.2 and 7.3).
use Rattle.std.specs.Prelude.{◌≡◌, ℕ, ◌<◌, Bool, List, [], ◌∷◌, length, Option, Some, None, ℤ, pos, MatchBool, ◌⊎◌}
use Rattle.expgolomb.specs.Bits.{Place}
use Rattle.expgolomb.specs.Codes.{Follows, IsFixed, IsUe, IsSe, IsCut, IsTooLong, HasMoreData}

-- how a value is coded: u(n), ue(v), se(v), or without bits whether more_rbsp_data() holds
pub data Code : Type 0 where
  Fixed : (n : ℕ) → Code
  Unsigned : Code
  Signed : Code
  MoreData : Code

-- the value's code stands at p, and q is the place after it
abbrev pub HasCode : Code → Place → ℤ → Place → Type 0
HasCode (Fixed n) p v q = (k : ℕ) × (word : List Bool) × IsFixed n word k × Follows word p q × (v ≡ pos k)
HasCode Unsigned p v q = (k : ℕ) × (word : List Bool) × IsUe word k × Follows word p q × (v ≡ pos k)
HasCode Signed p v q = (word : List Bool) × IsSe word v × Follows word p q
HasCode MoreData p v q = (q ≡ p) × ((HasMoreData p × (v ≡ pos 1)) ⊎ ((HasMoreData p → ⊥) × (v ≡ pos 0)))

-- the bits end within the code
abbrev pub IsCutAt : Code → Place → Type 0
IsCutAt (Fixed n) p = length p.rest < n
IsCutAt Unsigned p = IsCut p.rest
IsCutAt Signed p = IsCut p.rest
IsCutAt MoreData p = ⊥

-- the code has too many zeros
abbrev pub IsTooLongAt : Code → Place → Type 0
IsTooLongAt (Fixed n) p = ⊥
IsTooLongAt Unsigned p = IsTooLong p.rest
IsTooLongAt Signed p = IsTooLong p.rest
IsTooLongAt MoreData p = ⊥

-- A row of a table: a field F and its code, whether it is present after the values S before it, and the fault E
-- of a code that is cut, of one that is too long, and of a value out of its range.
pub record Row (F S E : Type 0) : Type 0 where
  pub field : F
  pub code : Code
  pub present : S → Bool
  pub cut : E
  pub long : E
  pub wrong : S → ℤ → Option E

-- a header: the fields that are present, in order, each with its value
abbrev pub Header : Type 0 → Type 0
Header F = List (F × ℤ)

-- what a header says, from the values before it on: each field takes its value in turn
abbrev pub values : {F S : Type 0} → (F → ℤ → S → S) → S → Header F → S
values take s [] = s
values take s (entry ∷ header) = values take (take entry.0 entry.1 s) header

-- The header is that of the rows after the values s: the codes of the rows that are present stand at p, one after
-- the other, each value in its range, and q is the place after them.
abbrev pub HasRows : {F S E : Type 0} → (F → ℤ → S → S) → List (Row F S E) → S → Place → Header F → Place → Type 0
HasRows take [] s p h q = (h ≡ []) × (q ≡ p)
HasRows {F} take (row ∷ rows) s p h q =
    MatchBool (row.present s)
    ((v : ℤ) × (mid : Place) × (more : Header F) × HasCode row.code p v mid × (row.wrong s v ≡ None)
    × (h ≡ (row.field, v) ∷ more) × HasRows take rows (take row.field v s) mid more q)
    (HasRows take rows s p h q)

-- the field of a row shows the fault: its code is cut or too long, or its value is out of range
abbrev pub FieldHasFault : {F S E : Type 0} → Row F S E → S → Place → E → Type 0
FieldHasFault row s p e =
    (IsCutAt row.code p × (e ≡ row.cut))
    ⊎ ((IsTooLongAt row.code p × (e ≡ row.long))
    ⊎ ((v : ℤ) × (q : Place) × HasCode row.code p v q × (row.wrong s v ≡ Some e)))

-- the first field that shows a fault shows this one
abbrev pub HasFault : {F S E : Type 0} → (F → ℤ → S → S) → List (Row F S E) → S → Place → E → Type 0
HasFault take [] s p e = ⊥
HasFault take (row ∷ rows) s p e =
    MatchBool (row.present s)
    (FieldHasFault row s p e
    ⊎ ((v : ℤ) × (mid : Place) × HasCode row.code p v mid × (row.wrong s v ≡ None) × HasFault take rows (take row.field v s) mid e))
    (HasFault take rows s p e)
