-- How many bits codes have.
use Rattle.std.proofs.Common.{◌≡◌, ℕ, ◌+◌, ◌-◌, ◌*◌, ◌<◌, ◌≤◌, Bool, true, false, cond, List, [], ◌∷◌, length, replicate, Some, Result, Ok, Err, ℤ, refl, sym, ◌∙◌, ap, inl, inr, ◌⊎◌, arith, length-append}
use Rattle.std.proofs.lemmas.List.{length-replicate}
use Rattle.std.specs.List.{AllByRecursion}
use Rattle.expgolomb.specs.Bits.{Place}
use Rattle.expgolomb.specs.Codes.{Follows, IsUe, IsCut}
use Rattle.expgolomb.specs.Grammar.{Code, Fixed, Unsigned, Signed, MoreData, HasCode, Row, FieldHasFault}
use Rattle.h264_types.specs.Chains.{◌>>=◌}
use Rattle.expgolomb.specs.TableReading.{field_at, rows_at}
use Rattle.expgolomb.proofs.Tables.{field_found, field_fault}

-- a ue(v) code has at most 63 bits
pub length-ue : (word : List Bool) (v : ℕ) → IsUe word v → length word ≤ 63
length-ue word v is =
    let whole : length word ≡ length is.text - 1 + length is.text =
    ap length is.padded ∙ length-append (replicate (length is.text - 1) false) is.text ∙ ap (λ n. n + length is.text) (length-replicate (length is.text - 1) false) in
    omega (arith, is.short)

-- bits that end within one are fewer
pub length-cut : (bits : List Bool) → IsCut bits → length bits < 63
length-cut bits is =
    let whole : length is.word ≡ length bits + length is.missing = ap length is.front ∙ length-append bits is.missing in
    omega (arith, length-ue is.word is.v is.code, is.ends)

-- the next place is at most 63 bits further on
pub record IsNear (p q : Place) : Type 0 where
  pub before : q.before ≤ p.before + 63
  pub rest : length p.rest ≤ length q.rest + 63

-- codes of at most 63 bits
abbrev pub IsShort : Code → Type 0
IsShort (Fixed n) = n ≤ 63
IsShort Unsigned = Unit {0}
IsShort Signed = Unit {0}
IsShort MoreData = Unit {0}

near_word : (word : List Bool) (p q : Place) → length word ≤ 63 → Follows word p q → IsNear p q
near_word word p q short f =
    let whole : length p.rest ≡ length word + length q.rest = ap length f.bits ∙ length-append word q.rest in
    record { before = omega (arith, f.before); rest = omega arith }

pub code_near : (code : Code) (p : Place) (v : ℤ) (q : Place) → IsShort code → HasCode code p v q → IsNear p q
code_near (Fixed n) p v q short h = near_word h.1 p q (omega (arith, h.2.long)) h.3
code_near Unsigned p v q short h = near_word h.1 p q (length-ue h.1 h.0 h.2) h.3
code_near Signed p v q short h = near_word h.0 p q (length-ue h.0 h.1.k h.1.code) h.2
code_near MoreData p v q short h = rw h.0 record { before = omega arith; rest = omega arith }

-- a row of a ue(v) code none of whose values is refused like a cut one
pub record IsUnsignedRow {F S E : Type 0} (cut : E) (row : Row F S E) : Type 0 where
  pub code : row.code ≡ Unsigned
  pub long : row.long ≡ cut → ⊥
  pub range : (s : S) (v : ℤ) → row.wrong s v ≡ Some cut → ⊥

field_uncut : {F S E : Type 0} (cut : E) (row : Row F S E) → IsUnsignedRow cut row → (s : S) (p : Place) → 63 ≤ length p.rest → FieldHasFault row s p cut → ⊥
field_uncut cut row is s p enough (inl h) =
    let few = length-cut p.rest (rw is.code at h.0) in
    omega arith
field_uncut cut row is s p enough (inr (inl h)) = is.long (sym h.1)
field_uncut cut row is s p enough (inr (inr h)) = is.range s h.0 h.3

-- rows before so many bits aren't cut
abbrev NotCut : {F S E : Type 0} → E → (F → ℤ → S → S) → List (Row F S E) → Type 0
NotCut {F} {S} cut take rows = (s : S) (p : Place) → 63 * length rows ≤ length p.rest → rows_at take rows s p ≡ Err cut → ⊥

bind_err : {A B E : Type 0} (r : Result A E) (f : A → Result B E) (e : E) → (r >>= f) ≡ Err e → (r ≡ Err e) ⊎ ((x : A) × (r ≡ Ok x) × (f x ≡ Err e))
bind_err (Ok x) f e is = inr (x, refl, is)
bind_err (Err d) f e is = inl cc

row_uncut : {F S E : Type 0} (cut : E) (take : F → ℤ → S → S) (row : Row F S E) (rows : List (Row F S E)) → IsUnsignedRow cut row → NotCut cut take rows → (s : S) (p : Place) (b : Bool) → 63 * length rows + 63 ≤ length p.rest → cond b (field_at row s p >>= (λ x. rows_at take rows (take row.field x.0 s) x.1)) (rows_at take rows s p) ≡ Err cut → ⊥
row_uncut cut take row rows is rest s p true enough read =
    elim (bind_err (field_at row s p) (λ x. rows_at take rows (take row.field x.0 s) x.1) cut read) [
      | inl first ↦ field_uncut cut row is s p (omega arith) (field_fault row s p cut first)
      | inr later ↦
          let near = code_near Unsigned p later.0.0 later.0.1 tt (rw is.code at (field_found row s p later.0 later.1).0) in
          rest (take row.field later.0.0 s) later.0.1 (omega (arith, near.rest)) later.2
    ]
row_uncut cut take row rows is rest s p false enough read = rest s p (omega arith) read

pub rows_uncut : {F S E : Type 0} (cut : E) (take : F → ℤ → S → S) (rows : List (Row F S E)) → AllByRecursion (IsUnsignedRow cut) rows → NotCut cut take rows
unfolding rows_at
rows_uncut cut take [] all s p enough read = cc
rows_uncut cut take (row ∷ rows) all s p enough read = row_uncut cut take row rows all.0 (rows_uncut cut take rows all.1) s p (row.present s) (omega arith) read
