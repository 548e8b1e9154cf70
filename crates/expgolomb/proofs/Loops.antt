-- Rows that are repeated: a loop that reads them one by one.
use Rattle.std.proofs.Common.{◌≡◌, ℕ, zero, suc, true, false, List, [], ◌∷◌, ◌++◌, replicate, Ok, Err, ℤ, refl, ◌∙◌, ap}
use Rattle.expgolomb.specs.Bits.{Place}
use Rattle.expgolomb.specs.Grammar.{Row}
use Rattle.h264_types.specs.Chains.{◌>>=◌}
use Rattle.expgolomb.specs.TableReading.{field_at, rows_at}
use Rattle.expgolomb.proofs.Tables.{rows_append}

-- a row that is present is read, and the rest after it
pub rows_step : {F S E : Type 0} (take : F → ℤ → S → S) (row : Row F S E) (rows : List (Row F S E)) (s : S) (p : Place) (v : ℤ) (q : Place) → row.present s ≡ true → field_at row s p ≡ Ok (v, q) → rows_at take (row ∷ rows) s p ≡ rows_at take rows (take row.field v s) q
unfolding rows_at
rows_step take row rows s p v q here read = rw (here, read) refl

-- its fault is the fault of all
pub rows_stop : {F S E : Type 0} (take : F → ℤ → S → S) (row : Row F S E) (rows : List (Row F S E)) (s : S) (p : Place) (e : E) → row.present s ≡ true → field_at row s p ≡ Err e → rows_at take (row ∷ rows) s p ≡ Err e
unfolding rows_at
rows_stop take row rows s p e here read = rw (here, read) refl

-- a row that is absent is passed over
pub rows_pass : {F S E : Type 0} (take : F → ℤ → S → S) (row : Row F S E) (rows : List (Row F S E)) (s : S) (p : Place) → row.present s ≡ false → rows_at take (row ∷ rows) s p ≡ rows_at take rows s p
unfolding rows_at
rows_pass take row rows s p here = rw here refl

pub rows_none : {F S E : Type 0} (take : F → ℤ → S → S) (s : S) (p : Place) → rows_at {F = F} {S = S} {E = E} take [] s p ≡ Ok (s, p)
unfolding rows_at
rows_none take s p = refl

-- one of the repeated rows is read
pub repeat_step : {F S E : Type 0} (take : F → ℤ → S → S) (row : Row F S E) (n m : ℕ) (s : S) (p : Place) (v : ℤ) (q : Place) → m ≡ suc n → row.present s ≡ true → field_at row s p ≡ Ok (v, q) → rows_at take (replicate m row) s p ≡ rows_at take (replicate n row) (take row.field v s) q
repeat_step take row n m s p v q more here read = rw more (rows_step take row (replicate n row) s p v q here read)

pub repeat_stop : {F S E : Type 0} (take : F → ℤ → S → S) (row : Row F S E) (n m : ℕ) (s : S) (p : Place) (e : E) → m ≡ suc n → row.present s ≡ true → field_at row s p ≡ Err e → rows_at take (replicate m row) s p ≡ Err e
repeat_stop take row n m s p e more here read = rw more (rows_stop take row (replicate n row) s p e here read)

-- none of the repeated rows is present
pub repeat_absent : {F S E : Type 0} (take : F → ℤ → S → S) (row : Row F S E) (n : ℕ) (s : S) (p : Place) → row.present s ≡ false → rows_at take (replicate n row) s p ≡ Ok (s, p)
repeat_absent take row zero s p here = rows_none take s p
repeat_absent take row (suc n) s p here = rows_pass take row (replicate n row) s p here ∙ repeat_absent take row n s p here

-- rows after rows that were read
pub after_ok : {F S E : Type 0} (take : F → ℤ → S → S) (xs ys : List (Row F S E)) (s : S) (p : Place) (t : S) (q : Place) → rows_at take xs s p ≡ Ok (t, q) → rows_at take (xs ++ ys) s p ≡ rows_at take ys t q
after_ok take xs ys s p t q read = rows_append take xs ys s p ∙ ap (λ r. r >>= (λ x. rows_at take ys x.0 x.1)) read

-- a fault of the front is the fault of all
pub after_err : {F S E : Type 0} (take : F → ℤ → S → S) (xs ys : List (Row F S E)) (s : S) (p : Place) (e : E) → rows_at take xs s p ≡ Err e → rows_at take (xs ++ ys) s p ≡ Err e
after_err take xs ys s p e read = rows_append take xs ys s p ∙ ap (λ r. r >>= (λ x. rows_at take ys x.0 x.1)) read
