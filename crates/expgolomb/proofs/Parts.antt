-- Tables of a part of the values, as rows of the table of all values.
use Rattle.std.proofs.Common.{◌≡◌, Bool, true, false, cond, List, [], ◌∷◌, map, Result, Ok, Err, ℤ, refl, ◌∙◌}
use Rattle.expgolomb.specs.Bits.{Place}
use Rattle.expgolomb.specs.Grammar.{Row}
use Rattle.h264_types.specs.Chains.{◌>>=◌}
use Rattle.expgolomb.specs.TableReading.{field_at, rows_at}
use Rattle.expgolomb.specs.Rows.{within}
use Rattle.expgolomb.proofs.Loops.{rows_pass, rows_none}

-- where the condition doesn't hold, the part is absent
pub part_absent : {F G S T E : Type 0} (take : G → ℤ → T → T) (field : F → G) (part : T → S) (holds : T → Bool) (rows : List (Row F S E)) (t : T) (p : Place) → holds t ≡ false → rows_at take (map (within field part holds) rows) t p ≡ Ok (t, p)
part_absent take field part holds [] t p off = rows_none take t p
part_absent take field part holds (row ∷ rows) t p off =
    rows_pass take (within field part holds row) (map (within field part holds) rows) t p (rw off refl) ∙ part_absent take field part holds rows t p off

-- what was read of a part, as what was read of all values
abbrev pub mapped : {S T E : Type 0} → (S → T) → Result (S × Place) E → Result (T × Place) E
mapped put (Ok x) = Ok (put x.0, x.1)
mapped put (Err e) = Err e

-- what the rows say where the condition holds
abbrev SameRead : {F G S T E : Type 0} → (G → ℤ → T → T) → (F → ℤ → S → S) → (S → T) → List (Row G T E) → List (Row F S E) → Type 0
SameRead {F} {G} {S} take inner put outer rows = (s : S) (p : Place) → rows_at take outer (put s) p ≡ mapped put (rows_at inner rows s p)

part_case : {F G S T E : Type 0} (take : G → ℤ → T → T) (inner : F → ℤ → S → S) (put : S → T) (f : F) (g : G) (outer : List (Row G T E)) (rows : List (Row F S E)) → SameRead take inner put outer rows → ((v : ℤ) (s : S) → take g v (put s) ≡ put (inner f v s)) → (s : S) (p : Place) (r : Result (ℤ × Place) E) (b : Bool) → cond b (r >>= (λ x. rows_at take outer (take g x.0 (put s)) x.1)) (rows_at take outer (put s) p) ≡ mapped put (cond b (r >>= (λ x. rows_at inner rows (inner f x.0 s) x.1)) (rows_at inner rows s p))
part_case take inner put f g outer rows same taken s p (Ok x) true =
    rw (taken x.0 s) (same (inner f x.0 s) x.1)
part_case take inner put f g outer rows same taken s p (Err e) true = refl
part_case take inner put f g outer rows same taken s p r false = same s p

-- where the condition holds, the rows say of the part what its own table says
pub part_read : {F G S T E : Type 0} (take : G → ℤ → T → T) (inner : F → ℤ → S → S) (field : F → G) (part : T → S) (holds : T → Bool) (put : S → T) → ((s : S) → part (put s) ≡ s) → ((s : S) → holds (put s) ≡ true) → ((f : F) (v : ℤ) (s : S) → take (field f) v (put s) ≡ put (inner f v s)) → (rows : List (Row F S E)) (s : S) (p : Place) → rows_at take (map (within field part holds) rows) (put s) p ≡ mapped put (rows_at inner rows s p)
unfolding rows_at
part_read take inner field part holds put parted held taken [] s p = refl
part_read take inner field part holds put parted held taken (row ∷ rows) s p =
    rw (held s, parted s) (part_case take inner put row.field (field row.field) (map (within field part holds) rows) rows (part_read take inner field part holds put parted held taken rows) (taken row.field) s p (field_at row s p) (row.present s))
