-- One law of reading for every table: what is read is the header of the table, or its first fault, and nothing else is.
use Rattle.std.proofs.Common.{◌≡◌, ℕ, zero, suc, Bool, true, false, cond, List, [], ◌∷◌, ◌++◌, drop, Option, Some, None, Result, Ok, Err, ℤ, pos, refl, sym, ◌∙◌, ap, subst, arith, inl, inr, ◌⊎◌, Contains}
use Rattle.std.specs.List.{list_any, AllByRecursion}
use Rattle.expgolomb.specs.declared.fault.CodeFault.{CodeFault}
use Rattle.expgolomb.specs.declared.fault.CodeFault.TheVariants.{Cut, TooLong}
use Rattle.expgolomb.specs.Bits.{Place}
use Rattle.expgolomb.specs.Reading.{fixed_at, ue_at}
use Rattle.expgolomb.proofs.ExpGolomb.{ok_is, ue_ok, ue_only, cut_is, is_cut, long_is, is_long}
use Rattle.expgolomb.proofs.Signed.{se_ok, se_only, se_is_not, se_error}
use Rattle.expgolomb.proofs.FixedCodes.{fixed_ok, fixed_only, fixed_cut_is, fixed_never_long}
use Rattle.expgolomb.proofs.ExpGolomb.{fixed_short}
use Rattle.expgolomb.specs.Grammar.{Code, Fixed, Unsigned, Signed, MoreData, HasCode, IsCutAt, IsTooLongAt, Row, Header, values, HasRows, FieldHasFault, HasFault}
use Rattle.h264_types.specs.Chains.{◌>>=◌}
use Rattle.expgolomb.specs.TableReading.{unsigned, code_at, in_range, checked, value_at, field_at, rows_at}

-- an unsigned value was read as a number
unsigned_ok : {E : Type 0} (r : Result (ℕ × Place) E) (x : ℤ × Place) → unsigned r ≡ Ok x → (k : ℕ) × (r ≡ Ok (k, x.1)) × (x.0 ≡ pos k)
unsigned_ok (Ok y) x is =
    let same = ok_is _ x is in
    (y.0, ap (λ (p : Place). Ok (y.0, p)) (ap (λ (z : ℤ × Place). z.1) same), sym (ap (λ (z : ℤ × Place). z.0) same))
unsigned_ok (Err e) x is = cc

unsigned_err : {E : Type 0} (r : Result (ℕ × Place) E) (e : E) → unsigned r ≡ Err e → r ≡ Err e
unsigned_err (Ok y) e is = cc
unsigned_err (Err d) e is = cc

-- whether a 1 is among the bits
any_is : (bits : List Bool) → ((list_any (λ bit. bit) bits ≡ true) × Contains bits true) ⊎ ((list_any (λ bit. bit) bits ≡ false) × (Contains bits true → ⊥))
any_is [] = inr (refl, λ one. absurd (omega (arith, one.1)))
any_is (true ∷ bits) = inl (refl, (0, omega arith, refl))
any_is (false ∷ bits) =
    elim (any_is bits) [
      | inl some ↦ inl (some.0, (suc some.1.0, omega (arith, some.1.1), some.1.2))
      | inr none ↦ inr (none.0, not_before bits none.1)
    ]
  where
    not_before : (bits : List Bool) → (Contains bits true → ⊥) → Contains (false ∷ bits) true → ⊥
    not_before bits none (zero, h, is) = cc
    not_before bits none (suc k, h, is) = none (k, omega arith, is)

more_found : (p : Place) (x : ℤ × Place) → code_at MoreData p ≡ Ok x → HasCode MoreData p x.0 x.1
more_found p x is =
    let same = ok_is _ x is in (
      sym (ap (λ (y : ℤ × Place). y.1) same),
      elim (any_is (drop 1 p.rest)) [
        | inl some ↦ inl (some.1, sym (rw some.0 at (ap (λ (y : ℤ × Place). y.0) same)))
        | inr none ↦ inr (none.1, sym (rw none.0 at (ap (λ (y : ℤ × Place). y.0) same)))
      ],
    )

more_only : (p : Place) (v : ℤ) (q : Place) → HasCode MoreData p v q → code_at MoreData p ≡ Ok (v, q)
more_only p v q (same, inl one) =
    elim (any_is (drop 1 p.rest)) [ inl some ↦ rw (some.0, same, one.1) refl | inr none ↦ absurd (none.1 one.0) ]
more_only p v q (same, inr nothing) =
    elim (any_is (drop 1 p.rest)) [ inl some ↦ absurd (nothing.0 some.1) | inr none ↦ rw (none.0, same, nothing.1) refl ]

-- what is read is the code's value
pub code_found : (code : Code) (p : Place) (x : ℤ × Place) → code_at code p ≡ Ok x → HasCode code p x.0 x.1
code_found (Fixed n) p x is =
    let read = unsigned_ok (fixed_at n p) x is in
    let code = fixed_ok n p (read.0, x.1) read.1 in
    (read.0, code.0, code.1, code.2, read.2)
code_found Unsigned p x is =
    let read = unsigned_ok (ue_at p) x is in
    let code = ue_ok p (read.0, x.1) read.1 in
    (read.0, code.0, code.1, code.2, read.2)
code_found Signed p x is = se_ok p x is
code_found MoreData p x is = more_found p x is

pub code_only : (code : Code) (p : Place) (v : ℤ) (q : Place) → HasCode code p v q → code_at code p ≡ Ok (v, q)
code_only (Fixed n) p v q h = ap unsigned (fixed_only n h.1 h.0 p q h.2 h.3) ∙ ap (λ (z : ℤ). Ok (z, q)) (sym h.4)
code_only Unsigned p v q h = ap unsigned (ue_only h.1 h.0 p q h.2 h.3) ∙ ap (λ (z : ℤ). Ok (z, q)) (sym h.4)
code_only Signed p v q h = se_only h.0 v p q h.1 h.2
code_only MoreData p v q h = more_only p v q h

pub code_cut : (code : Code) (p : Place) → code_at code p ≡ Err Cut → IsCutAt code p
code_cut (Fixed n) p is = fixed_cut_is n p (unsigned_err (fixed_at n p) Cut is)
code_cut Unsigned p is = cut_is p (unsigned_err (ue_at p) Cut is)
code_cut Signed p is = cut_is p (se_error p Cut is)
code_cut MoreData p is = cc

pub cut_code : (code : Code) (p : Place) → IsCutAt code p → code_at code p ≡ Err Cut
cut_code (Fixed n) p h = ap unsigned (fixed_short n p h)
cut_code Unsigned p h = ap unsigned (is_cut p h)
cut_code Signed p h = se_is_not p Cut (is_cut p h)
cut_code MoreData p h = absurd h

pub code_long : (code : Code) (p : Place) → code_at code p ≡ Err TooLong → IsTooLongAt code p
code_long (Fixed n) p is = fixed_never_long n p (unsigned_err (fixed_at n p) TooLong is)
code_long Unsigned p is = long_is p (unsigned_err (ue_at p) TooLong is)
code_long Signed p is = long_is p (se_error p TooLong is)
code_long MoreData p is = cc

pub long_code : (code : Code) (p : Place) → IsTooLongAt code p → code_at code p ≡ Err TooLong
long_code (Fixed n) p h = absurd h
long_code Unsigned p h = ap unsigned (is_long p h)
long_code Signed p h = se_is_not p TooLong (is_long p h)
long_code MoreData p h = absurd h

-- a value that was let through is in its range
let_through : {V E : Type 0} (o : Option E) (v x : V) → in_range o v ≡ Ok x → (o ≡ None) × (v ≡ x)
let_through None v x is = (refl, ok_is v x is)
let_through (Some e) v x is = cc

stopped : {V E : Type 0} (o : Option E) (v : V) (e : E) → in_range o v ≡ Err e → o ≡ Some e
stopped None v e is = cc
stopped (Some d) v e is = cc

pub field_found : {F S E : Type 0} (row : Row F S E) (s : S) (p : Place) (x : ℤ × Place) → field_at row s p ≡ Ok x → HasCode row.code p x.0 x.1 × (row.wrong s x.0 ≡ None)
unfolding value_at
field_found {F} {S} {E} row s p x is = go (code_at row.code p) refl is
  where
    go : (r : Result (ℤ × Place) CodeFault) → code_at row.code p ≡ r → checked row.cut row.long (row.wrong s) r ≡ Ok x → HasCode row.code p x.0 x.1 × (row.wrong s x.0 ≡ None)
    go (Ok y) read found =
        let through = let_through (row.wrong s y.0) y x found in
        subst (λ (z : ℤ × Place). HasCode row.code p z.0 z.1 × (row.wrong s z.0 ≡ None)) through.1 (code_found row.code p y read, through.0)
    go (Err Cut) read found = cc
    go (Err TooLong) read found = cc

pub field_only : {F S E : Type 0} (row : Row F S E) (s : S) (p : Place) (v : ℤ) (q : Place) → HasCode row.code p v q → row.wrong s v ≡ None → field_at row s p ≡ Ok (v, q)
unfolding value_at
field_only row s p v q h fits =
    ap (checked row.cut row.long (row.wrong s)) (code_only row.code p v q h) ∙ ap (λ o. in_range o (v, q)) fits

-- the fault of a row that is present
pub field_fault : {F S E : Type 0} (row : Row F S E) (s : S) (p : Place) (e : E) → field_at row s p ≡ Err e → FieldHasFault row s p e
unfolding value_at
field_fault {F} {S} {E} row s p e is = go (code_at row.code p) refl is
  where
    go : (r : Result (ℤ × Place) CodeFault) → code_at row.code p ≡ r → checked row.cut row.long (row.wrong s) r ≡ Err e → FieldHasFault row s p e
    go (Ok y) read found = inr (inr (y.0, y.1, code_found row.code p y read, stopped (row.wrong s y.0) y e found))
    go (Err Cut) read found = inl (code_cut row.code p read, cc)
    go (Err TooLong) read found = inr (inl (code_long row.code p read, cc))

pub fault_field : {F S E : Type 0} (row : Row F S E) (s : S) (p : Place) (e : E) → FieldHasFault row s p e → field_at row s p ≡ Err e
unfolding value_at
fault_field row s p e (inl cut) = rw cut.1 (ap (checked row.cut row.long (row.wrong s)) (cut_code row.code p cut.0))
fault_field row s p e (inr (inl long)) = rw long.1 (ap (checked row.cut row.long (row.wrong s)) (long_code row.code p long.0))
fault_field row s p e (inr (inr range)) =
    ap (checked row.cut row.long (row.wrong s)) (code_only row.code p range.0 range.1 range.2) ∙ ap (λ o. in_range o (range.0, range.1)) range.3

-- The header of the rest of a table, where that is what reading gives.
abbrev Founds : {F S E : Type 0} → (F → ℤ → S → S) → List (Row F S E) → Type 0
Founds {F} {S} take rows = (s : S) (p : Place) (x : S × Place) → rows_at take rows s p ≡ Ok x → (h : Header F) × HasRows take rows s p h x.1 × (values take s h ≡ x.0)

bind_ok : {A B E : Type 0} (r : Result A E) (f : A → Result B E) (y : B) → (r >>= f) ≡ Ok y → (x : A) × (r ≡ Ok x) × (f x ≡ Ok y)
bind_ok (Ok x) f y is = (x, refl, is)
bind_ok (Err e) f y is = cc

bind_err : {A B E : Type 0} (r : Result A E) (f : A → Result B E) (e : E) → (r >>= f) ≡ Err e → (r ≡ Err e) ⊎ ((x : A) × (r ≡ Ok x) × (f x ≡ Err e))
bind_err (Ok x) f e is = inr (x, refl, is)
bind_err (Err d) f e is = inl cc

found_present : {F S E : Type 0} (take : F → ℤ → S → S) (row : Row F S E) (rows : List (Row F S E)) → Founds take rows → (s : S) (p : Place) (x : S × Place) → row.present s ≡ true → field_at row s p >>= (λ y. rows_at take rows (take row.field y.0 s) y.1) ≡ Ok x → (h : Header F) × HasRows take (row ∷ rows) s p h x.1 × (values take s h ≡ x.0)
found_present take row rows rest s p x here is =
    let read = bind_ok (field_at row s p) (λ y. rows_at take rows (take row.field y.0 s) y.1) x is in
    let field = field_found row s p read.0 read.1 in
    let more = rest (take row.field read.0.0 s) read.0.1 x read.2 in (
      (row.field, read.0.0) ∷ more.0,
      rw here (read.0.0, read.0.1, more.0, field.0, field.1, refl, more.1),
      more.2,
    )

found_row : {F S E : Type 0} (take : F → ℤ → S → S) (row : Row F S E) (rows : List (Row F S E)) → Founds take rows → (s : S) (p : Place) (x : S × Place) (b : Bool) → row.present s ≡ b → cond b (field_at row s p >>= (λ y. rows_at take rows (take row.field y.0 s) y.1)) (rows_at take rows s p) ≡ Ok x → (h : Header F) × HasRows take (row ∷ rows) s p h x.1 × (values take s h ≡ x.0)
found_row take row rows rest s p x true here is = found_present take row rows rest s p x here is
found_row take row rows rest s p x false here is = let more = rest s p x is in (more.0, rw here more.1, more.2)

-- Tables: what is read is the header, and the header is what is read.
pub rows_found : {F S E : Type 0} (take : F → ℤ → S → S) (rows : List (Row F S E)) → Founds take rows
unfolding rows_at
rows_found take [] s p x is =
    let same = ok_is _ x is in
    ([], (refl, sym (ap (λ y. y.1) same)), ap (λ y. y.0) same)
rows_found take (row ∷ rows) s p x is = found_row take row rows (rows_found take rows) s p x (row.present s) refl is

-- whatever header the rows have is what is read
abbrev Onlys : {F S E : Type 0} → (F → ℤ → S → S) → List (Row F S E) → Type 0
Onlys {F} {S} take rows = (s : S) (p : Place) (h : Header F) (q : Place) → HasRows take rows s p h q → rows_at take rows s p ≡ Ok (values take s h, q)

only_present : {F S E : Type 0} (take : F → ℤ → S → S) (row : Row F S E) (rows : List (Row F S E)) → Onlys take rows → (s : S) (p : Place) (h : Header F) (q : Place) (v : ℤ) (mid : Place) (more : Header F) → HasCode row.code p v mid → row.wrong s v ≡ None → h ≡ (row.field, v) ∷ more → HasRows take rows (take row.field v s) mid more q → field_at row s p >>= (λ y. rows_at take rows (take row.field y.0 s) y.1) ≡ Ok (values take s h, q)
only_present take row rows rest s p h q v mid more code fits is has =
    rw (field_only row s p v mid code fits, is) (rest (take row.field v s) mid more q has)

only_row : {F S E : Type 0} (take : F → ℤ → S → S) (row : Row F S E) (rows : List (Row F S E)) → Onlys take rows → (s : S) (p : Place) (h : Header F) (q : Place) (b : Bool) → row.present s ≡ b → HasRows take (row ∷ rows) s p h q → cond b (field_at row s p >>= (λ y. rows_at take rows (take row.field y.0 s) y.1)) (rows_at take rows s p) ≡ Ok (values take s h, q)
only_row take row rows rest s p h q true here has =
    let x = rw here at has in
    only_present take row rows rest s p h q x.0 x.1 x.2 x.3 x.4 x.5 x.6
only_row take row rows rest s p h q false here has = rest s p h q (rw here at has)

pub rows_only : {F S E : Type 0} (take : F → ℤ → S → S) (rows : List (Row F S E)) → Onlys take rows
unfolding rows_at
rows_only take [] s p h q has = rw (has.0, has.1) refl
rows_only take (row ∷ rows) s p h q has = only_row take row rows (rows_only take rows) s p h q (row.present s) refl has

-- the first fault is what is read
abbrev Faults : {F S E : Type 0} → (F → ℤ → S → S) → List (Row F S E) → Type 0
Faults {F} {S} {E} take rows = (s : S) (p : Place) (e : E) → rows_at take rows s p ≡ Err e → HasFault take rows s p e

fault_row : {F S E : Type 0} (take : F → ℤ → S → S) (row : Row F S E) (rows : List (Row F S E)) → Faults take rows → (s : S) (p : Place) (e : E) (b : Bool) → row.present s ≡ b → cond b (field_at row s p >>= (λ y. rows_at take rows (take row.field y.0 s) y.1)) (rows_at take rows s p) ≡ Err e → HasFault take (row ∷ rows) s p e
fault_row take row rows rest s p e true here is =
    elim (bind_err (field_at row s p) (λ y. rows_at take rows (take row.field y.0 s) y.1) e is) [
      | inl first ↦ rw here (inl (field_fault row s p e first))
      | inr later ↦
          let field = field_found row s p later.0 later.1 in
          rw here (inr (later.0.0, later.0.1, field.0, field.1, rest (take row.field later.0.0 s) later.0.1 e later.2))
    ]
fault_row take row rows rest s p e false here is = rw here (rest s p e is)

pub rows_fault : {F S E : Type 0} (take : F → ℤ → S → S) (rows : List (Row F S E)) → Faults take rows
unfolding rows_at
rows_fault take [] s p e is = cc
rows_fault take (row ∷ rows) s p e is = fault_row take row rows (rows_fault take rows) s p e (row.present s) refl is

abbrev FaultsOnly : {F S E : Type 0} → (F → ℤ → S → S) → List (Row F S E) → Type 0
FaultsOnly {F} {S} {E} take rows = (s : S) (p : Place) (e : E) → HasFault take rows s p e → rows_at take rows s p ≡ Err e

row_fault : {F S E : Type 0} (take : F → ℤ → S → S) (row : Row F S E) (rows : List (Row F S E)) → FaultsOnly take rows → (s : S) (p : Place) (e : E) (b : Bool) → row.present s ≡ b → HasFault take (row ∷ rows) s p e → cond b (field_at row s p >>= (λ y. rows_at take rows (take row.field y.0 s) y.1)) (rows_at take rows s p) ≡ Err e
row_fault take row rows rest s p e true here has =
    elim (rw here at has) [
      | inl first ↦ rw (fault_field row s p e first) refl
      | inr later ↦ rw (field_only row s p later.0 later.1 later.2 later.3) (rest (take row.field later.0 s) later.1 e later.4)
    ]
row_fault take row rows rest s p e false here has = rest s p e (rw here at has)

pub fault_rows : {F S E : Type 0} (take : F → ℤ → S → S) (rows : List (Row F S E)) → FaultsOnly take rows
unfolding rows_at
fault_rows take [] s p e has = absurd has
fault_rows take (row ∷ rows) s p e has = row_fault take row rows (fault_rows take rows) s p e (row.present s) refl has

append_bind : {A B C E : Type 0} (r : Result A E) (f : A → Result B E) (g : B → Result C E) (k : A → Result C E) → ((x : A) → k x ≡ (f x >>= g)) → (r >>= k) ≡ ((r >>= f) >>= g)
append_bind (Ok x) f g k same = same x
append_bind (Err e) f g k same = refl

append_row : {A B C E : Type 0} (b : Bool) (r : Result A E) (f : A → Result B E) (g : B → Result C E) (k : A → Result C E) (absent : Result B E) (whole : Result C E) → ((x : A) → k x ≡ (f x >>= g)) → whole ≡ (absent >>= g) → cond b (r >>= k) whole ≡ (cond b (r >>= f) absent >>= g)
append_row true r f g k absent whole same rest = append_bind r f g k same
append_row false r f g k absent whole same rest = rest

-- a table after a table
pub rows_append : {F S E : Type 0} (take : F → ℤ → S → S) (xs ys : List (Row F S E)) (s : S) (p : Place) → rows_at take (xs ++ ys) s p ≡ (rows_at take xs s p >>= (λ x. rows_at take ys x.0 x.1))
unfolding rows_at
rows_append take [] ys s p = refl
rows_append take (row ∷ xs) ys s p =
    append_row (row.present s) (field_at row s p) (λ y. rows_at take xs (take row.field y.0 s) y.1) (λ x. rows_at take ys x.0 x.1) (λ y. rows_at take (xs ++ ys) (take row.field y.0 s) y.1) (rows_at take xs s p) (rows_at take (xs ++ ys) s p) (λ y. rows_append take xs ys (take row.field y.0 s) y.1) (rows_append take xs ys s p)

-- rows of which none is present are skipped
pub rows_absent : {F S E : Type 0} (take : F → ℤ → S → S) (rows : List (Row F S E)) (s : S) (p : Place) → AllByRecursion (λ (row : Row F S E). row.present s ≡ false) rows → rows_at take rows s p ≡ Ok (s, p)
unfolding rows_at
rows_absent take [] s p none = refl
rows_absent take (row ∷ rows) s p none = rw none.0 (rows_absent take rows s p none.1)
