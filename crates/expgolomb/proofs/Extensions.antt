-- More bits after those that are there: what was read stays read, but for a code that was cut.
use Rattle.std.proofs.Common.{◌≡◌, ℕ, zero, suc, Bool, true, false, cond, List, [], ◌∷◌, ◌++◌, Option, None, Some, Result, Ok, Err, ℤ, refl, ◌∙◌, ap, inl, inr, replicate, append_assoc}
use Rattle.std.specs.List.{AllByRecursion}
use Rattle.expgolomb.specs.Bits.{Place}
use Rattle.expgolomb.specs.Codes.{Follows}
use Rattle.expgolomb.specs.Grammar.{Code, Fixed, Unsigned, Signed, MoreData, HasCode, IsTooLongAt, Row}
use Rattle.h264_types.specs.Chains.{◌>>=◌}
use Rattle.expgolomb.specs.TableReading.{field_at, rows_at}
use Rattle.expgolomb.proofs.Tables.{field_found, field_only, field_fault, fault_field}
use Rattle.expgolomb.specs.Structures.{Table, Syntax, Says, Here, Structure, followed_by, counted, end_or, ended, table_at, syntax_at}

-- the place with more bits at the end
abbrev pub extended : List Bool → Place → Place
extended more p = record { before = p.before; rest = p.rest ++ more }

-- what was read, with more bits at the end
abbrev pub after_extended : {A E : Type 0} → List Bool → Result (A × Place) E → Result (A × Place) E
after_extended more (Ok x) = Ok (x.0, extended more x.1)
after_extended more (Err e) = Err e

-- a code that looks at its own bits alone
abbrev pub IsPlain : Code → Type 0
IsPlain (Fixed n) = Unit {0}
IsPlain Unsigned = Unit {0}
IsPlain Signed = Unit {0}
IsPlain MoreData = ⊥

-- a row of such a code whose cut is this fault
pub record CutIs {F S E : Type 0} (cut : E) (row : Row F S E) : Type 0 where
  pub fault : row.cut ≡ cut
  pub plain : IsPlain row.code

follows_extended : (more word : List Bool) (p q : Place) → Follows word p q → Follows word (extended more p) (extended more q)
follows_extended more word p q f =
    record { bits = ap (λ bits. bits ++ more) f.bits ∙ append_assoc word q.rest more; before = f.before }

code_extended : (more : List Bool) (code : Code) (p : Place) (v : ℤ) (q : Place) → IsPlain code → HasCode code p v q → HasCode code (extended more p) v (extended more q)
code_extended more (Fixed n) p v q plain h = (h.0, h.1, h.2, follows_extended more h.1 p q h.3, h.4)
code_extended more Unsigned p v q plain h = (h.0, h.1, h.2, follows_extended more h.1 p q h.3, h.4)
code_extended more Signed p v q plain h = (h.0, h.1, follows_extended more h.0 p q h.2)
code_extended more MoreData p v q plain h = absurd plain

long_extended : (more : List Bool) (code : Code) (p : Place) → IsPlain code → IsTooLongAt code p → IsTooLongAt code (extended more p)
long_extended more (Fixed n) p plain h = h
long_extended more Unsigned p plain h = record { more = h.more ++ more; zeros = ap (λ bits. bits ++ more) h.zeros ∙ append_assoc (replicate 32 false) h.more more }
long_extended more Signed p plain h = record { more = h.more ++ more; zeros = ap (λ bits. bits ++ more) h.zeros ∙ append_assoc (replicate 32 false) h.more more }
long_extended more MoreData p plain h = h

-- one field
module _ {F S E : Type 0} (cut : E) (more : List Bool) (row : Row F S E) (is : CutIs cut row) where
  field_extended : (s : S) (p : Place) (r : Result (ℤ × Place) E) → field_at row s p ≡ r → (r ≡ Err cut → ⊥) → field_at row s (extended more p) ≡ after_extended more r
  field_extended s p (Ok x) read uncut =
      let found = field_found row s p x read in
      field_only row s (extended more p) x.0 (extended more x.1) (code_extended more row.code p x.0 x.1 is.plain found.0) found.1
  field_extended s p (Err e) read uncut =
      elim (field_fault row s p e read) [
        | inl h ↦ absurd (uncut (ap Err (h.1 ∙ is.fault)))
        | inr (inl h) ↦ fault_field row s (extended more p) e (inr (inl (long_extended more row.code p is.plain h.0, h.1)))
        | inr (inr h) ↦ fault_field row s (extended more p) e (inr (inr (h.0, extended more h.1, code_extended more row.code p h.0 h.1 is.plain h.2, h.3)))
      ]

-- a step whose continuation isn't cut either
bind_extended : {A B E : Type 0} (cut : E) (more : List Bool) (r : Result (A × Place) E) (f : A × Place → Result (B × Place) E) → ((x : A × Place) → r ≡ Ok x → (f x ≡ Err cut → ⊥) → f (x.0, extended more x.1) ≡ after_extended more (f x)) → ((r >>= f) ≡ Err cut → ⊥) → (after_extended more r >>= f) ≡ after_extended more (r >>= f)
bind_extended cut more (Ok x) f next uncut = next x refl uncut
bind_extended cut more (Err e) f next uncut = refl

first_uncut : {A B E : Type 0} (cut : E) (r : Result A E) (f : A → Result B E) → ((r >>= f) ≡ Err cut → ⊥) → r ≡ Err cut → ⊥
first_uncut cut r f uncut is = uncut (ap (λ x. x >>= f) is)

-- what was read of rows stays read
abbrev Extends : {F S E : Type 0} → E → List Bool → (F → ℤ → S → S) → List (Row F S E) → Type 0
Extends {F} {S} cut more take rows = (s : S) (p : Place) → (rows_at take rows s p ≡ Err cut → ⊥) → rows_at take rows s (extended more p) ≡ after_extended more (rows_at take rows s p)

row_extended : {F S E : Type 0} (cut : E) (more : List Bool) (take : F → ℤ → S → S) (row : Row F S E) (rows : List (Row F S E)) → CutIs cut row → Extends cut more take rows → (s : S) (p : Place) (b : Bool) → row.present s ≡ b → (cond b (field_at row s p >>= (λ x. rows_at take rows (take row.field x.0 s) x.1)) (rows_at take rows s p) ≡ Err cut → ⊥) → cond b (field_at row s (extended more p) >>= (λ x. rows_at take rows (take row.field x.0 s) x.1)) (rows_at take rows s (extended more p)) ≡ after_extended more (cond b (field_at row s p >>= (λ x. rows_at take rows (take row.field x.0 s) x.1)) (rows_at take rows s p))
row_extended cut more take row rows is rest s p true here uncut =
    let f = λ (x : ℤ × Place). rows_at take rows (take row.field x.0 s) x.1 in
    ap (λ r. r >>= f) (field_extended cut more row is s p (field_at row s p) refl (first_uncut cut (field_at row s p) f uncut))
    ∙ bind_extended cut more (field_at row s p) f (λ x read after. rest (take row.field x.0 s) x.1 after) uncut
row_extended cut more take row rows is rest s p false here uncut = rest s p uncut

pub rows_extended : {F S E : Type 0} (cut : E) (more : List Bool) (take : F → ℤ → S → S) (rows : List (Row F S E)) → AllByRecursion (CutIs cut) rows → Extends cut more take rows
unfolding rows_at
rows_extended cut more take [] all s p uncut = refl
rows_extended cut more take (row ∷ rows) all s p uncut = row_extended cut more take row rows all.0 (rows_extended cut more take rows all.1) s p (row.present s) refl uncut

pub table_extended : {F S E : Type 0} (cut : E) (more : List Bool) (table : Table F S E) → AllByRecursion (CutIs cut) table.rows → (p : Place) → (table_at table p ≡ Err cut → ⊥) → table_at table (extended more p) ≡ after_extended more (table_at table p)
unfolding table_at
table_extended cut more table all p uncut = rows_extended cut more table.take table.rows all table.absent p uncut

-- structures whose rows all have this fault where they are cut
abbrev pub AllCutsAre : {A E : Type 0} → E → Syntax A E → Type 0
AllCutsAre cut (Says a) = Unit {0}
AllCutsAre cut (Here next) = (place : ℕ) → AllCutsAre cut (next place)
AllCutsAre cut (Structure {F} {S} table next) = AllByRecursion (CutIs cut) table.rows × ((s : S) → AllCutsAre cut (next s))

pub syntax_extended : {A E : Type 0} (cut : E) (more : List Bool) (syntax : Syntax A E) → AllCutsAre cut syntax → (p : Place) → (syntax_at syntax p ≡ Err cut → ⊥) → syntax_at syntax (extended more p) ≡ after_extended more (syntax_at syntax p)
unfolding syntax_at
syntax_extended cut more (Says a) all p uncut = refl
syntax_extended cut more (Here next) all p uncut = syntax_extended cut more (next p.before) (all p.before) p uncut
syntax_extended {A} {E} cut more (Structure {F} {S} table next) all p uncut =
    let f = λ (x : S × Place). syntax_at (next x.0) x.1 in
    ap (λ r. r >>= f) (table_extended cut more table all.0 p (first_uncut cut (table_at table p) f uncut))
    ∙ bind_extended cut more (table_at table p) f (λ x read after. syntax_extended cut more (next x.0) (all.1 x.0) x.1 after) uncut

-- and those after one another
pub followed_by_cuts : {A B E : Type 0} (cut : E) (syntax : Syntax A E) (more : A → Syntax B E) → AllCutsAre cut syntax → ((a : A) → AllCutsAre cut (more a)) → AllCutsAre cut (followed_by syntax more)
unfolding followed_by
followed_by_cuts cut (Says a) more all rest = rest a
followed_by_cuts cut (Here next) more all rest = λ place. followed_by_cuts cut (next place) more (all place) rest
followed_by_cuts cut (Structure table next) more all rest = (all.0, λ s. followed_by_cuts cut (next s) more (all.1 s) rest)

pub counted_cuts : {X E : Type 0} (cut : E) (item : Syntax X E) → AllCutsAre cut item → (n : ℕ) (items : List X) → AllCutsAre cut (counted item n items)
unfolding counted
counted_cuts cut item all zero items = tt
counted_cuts cut item all (suc n) items = followed_by_cuts cut item (λ x. counted item n (items ++ x ∷ [])) all (λ x. counted_cuts cut item all n (items ++ x ∷ []))

end_or_cuts : {X E : Type 0} (cut : E) (items : List X) (more : List X → Syntax (List X) E) → ((xs : List X) → AllCutsAre cut (more xs)) → (item : Option X) → AllCutsAre cut (end_or items more item)
end_or_cuts cut items more all None = tt
end_or_cuts cut items more all (Some x) = all (items ++ x ∷ [])

pub ended_cuts : {F X E : Type 0} (cut : E) (table : Bool → Table F (Option X) E) → ((room : Bool) → AllByRecursion (CutIs cut) (table room).rows) → (n : ℕ) (items : List X) → AllCutsAre cut (ended table n items)
unfolding ended
ended_cuts cut table all zero items = (all false, λ item. tt)
ended_cuts cut table all (suc n) items = (all true, λ item. end_or_cuts cut items (λ more. ended table n more) (λ more. ended_cuts cut table all n more) item)
