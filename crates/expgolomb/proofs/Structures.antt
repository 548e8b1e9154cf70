-- Reading structures: what is read is what they say, or their first fault, and nothing else is.
use Rattle.std.proofs.Common.{List, ℕ, suc, Bool, true, false, [], ◌∷◌, ◌++◌, Option, Some, None, ◌≡◌, Result, Ok, Err, refl, sym, ◌∙◌, ap, inl, inr, ◌⊎◌}
use Rattle.expgolomb.specs.Bits.{Place}
use Rattle.expgolomb.proofs.ExpGolomb.{ok_is}
use Rattle.h264_types.specs.Chains.{◌>>=◌}
use Rattle.expgolomb.proofs.Tables.{rows_found, rows_only, rows_fault, fault_rows}
use Rattle.expgolomb.specs.Structures.{Table, Syntax, Says, Here, Structure, followed_by, counted, ended, HasTable, HasSyntax, SyntaxHasFault, table_at, syntax_at}

bind_ok : {A B E : Type 0} (r : Result A E) (f : A → Result B E) (y : B) → (r >>= f) ≡ Ok y → (x : A) × (r ≡ Ok x) × (f x ≡ Ok y)
bind_ok (Ok x) f y is = (x, refl, is)
bind_ok (Err e) f y is = cc

bind_err : {A B E : Type 0} (r : Result A E) (f : A → Result B E) (e : E) → (r >>= f) ≡ Err e → (r ≡ Err e) ⊎ ((x : A) × (r ≡ Ok x) × (f x ≡ Err e))
bind_err (Ok x) f e is = inr (x, refl, is)
bind_err (Err d) f e is = inl cc

pub table_found : {F S E : Type 0} (table : Table F S E) (p : Place) (x : S × Place) → table_at table p ≡ Ok x → HasTable table p x.0 x.1
unfolding table_at
table_found table p x is =
    let found = rows_found table.take table.rows table.absent p x is in
    record { header = found.0; rows = found.1; values = found.2 }

pub table_only : {F S E : Type 0} (table : Table F S E) (p : Place) (s : S) (q : Place) → HasTable table p s q → table_at table p ≡ Ok (s, q)
unfolding table_at
table_only table p s q has =
    rows_only table.take table.rows table.absent p has.header q has.rows ∙ ap (λ (t : _). Ok (t, q)) has.values

-- what is read is what the structures say
pub syntax_found : {A E : Type 0} (syntax : Syntax A E) (p : Place) (x : A × Place) → syntax_at syntax p ≡ Ok x → HasSyntax syntax p x.0 x.1
unfolding syntax_at
syntax_found (Says a) p x is =
    let same = ok_is _ x is in (sym (ap (λ y. y.0) same), sym (ap (λ y. y.1) same))
syntax_found (Here next) p x is = syntax_found (next p.before) p x is
syntax_found (Structure table next) p x is =
    let read = bind_ok (table_at table p) (λ y. syntax_at (next y.0) y.1) x is in
    (read.0.0, read.0.1, table_found table p read.0 read.1, syntax_found (next read.0.0) read.0.1 x read.2)

-- and what they say is what is read
pub syntax_only : {A E : Type 0} (syntax : Syntax A E) (p : Place) (a : A) (q : Place) → HasSyntax syntax p a q → syntax_at syntax p ≡ Ok (a, q)
unfolding syntax_at
syntax_only (Says b) p a q has = rw (has.0, has.1) refl
syntax_only (Here next) p a q has = syntax_only (next p.before) p a q has
syntax_only (Structure table next) p a q (s, mid, has, after) =
    ap (λ r. r >>= (λ y. syntax_at (next y.0) y.1)) (table_only table p s mid has) ∙ syntax_only (next s) mid a q after

-- the fault that is read is the first one
pub syntax_fault : {A E : Type 0} (syntax : Syntax A E) (p : Place) (e : E) → syntax_at syntax p ≡ Err e → SyntaxHasFault syntax p e
unfolding syntax_at table_at
syntax_fault (Says a) p e is = cc
syntax_fault (Here next) p e is = syntax_fault (next p.before) p e is
syntax_fault (Structure table next) p e is =
    elim (bind_err (table_at table p) (λ y. syntax_at (next y.0) y.1) e is) [
      | inl first ↦ inl (rows_fault table.take table.rows table.absent p e first)
      | inr later ↦ inr (later.0.0, later.0.1, table_found table p later.0 later.1, syntax_fault (next later.0.0) later.0.1 e later.2)
    ]

-- and the first one is what is read
pub fault_syntax : {A E : Type 0} (syntax : Syntax A E) (p : Place) (e : E) → SyntaxHasFault syntax p e → syntax_at syntax p ≡ Err e
unfolding syntax_at table_at
fault_syntax (Says a) p e has = absurd has
fault_syntax (Here next) p e has = fault_syntax (next p.before) p e has
fault_syntax (Structure table next) p e (inl first) =
    ap (λ r. r >>= (λ y. syntax_at (next y.0) y.1)) (fault_rows table.take table.rows table.absent p e first)
fault_syntax (Structure table next) p e (inr (s, mid, has, after)) =
    ap (λ r. r >>= (λ y. syntax_at (next y.0) y.1)) (table_only table p s mid has) ∙ fault_syntax (next s) mid e after

-- syntax after syntax
pub followed_by_at : {A B E : Type 0} (syntax : Syntax A E) (more : A → Syntax B E) (p : Place) → syntax_at (followed_by syntax more) p ≡ (syntax_at syntax p >>= (λ x. syntax_at (more x.0) x.1))
unfolding syntax_at followed_by
followed_by_at (Says a) more p = refl
followed_by_at (Here next) more p = followed_by_at (next p.before) more p
followed_by_at {A} {B} {E} (Structure {F} {S} table next) more p = bind_then (table_at table p) (λ (x : S × Place). syntax_at (next x.0) x.1) (λ (x : A × Place). syntax_at (more x.0) x.1) (λ (x : S × Place). syntax_at (followed_by (next x.0) more) x.1) (λ x. followed_by_at (next x.0) more x.1)
  where
    bind_then : {X Y Z : Type 0} (r : Result X E) (f : X → Result Y E) (g : Y → Result Z E) (k : X → Result Z E) → ((x : X) → k x ≡ (f x >>= g)) → (r >>= k) ≡ ((r >>= f) >>= g)
    bind_then (Ok x) f g k same = same x
    bind_then (Err e) f g k same = refl

pub followed_by_ok : {A B E : Type 0} (syntax : Syntax A E) (more : A → Syntax B E) (p : Place) (a : A) (q : Place) → syntax_at syntax p ≡ Ok (a, q) → syntax_at (followed_by syntax more) p ≡ syntax_at (more a) q
followed_by_ok syntax more p a q read = followed_by_at syntax more p ∙ ap (λ r. r >>= (λ x. syntax_at (more x.0) x.1)) read

pub followed_by_err : {A B E : Type 0} (syntax : Syntax A E) (more : A → Syntax B E) (p : Place) (e : E) → syntax_at syntax p ≡ Err e → syntax_at (followed_by syntax more) p ≡ Err e
followed_by_err syntax more p e read = followed_by_at syntax more p ∙ ap (λ r. r >>= (λ x. syntax_at (more x.0) x.1)) read

-- one of so many is read, or its fault
module _ {X E : Type 0} (item : Syntax X E) (m : ℕ) (items : List X) (p : Place) where
  pub counted_step : (n : ℕ) (x : X) (q : Place) → m ≡ suc n → syntax_at item p ≡ Ok (x, q) → syntax_at (counted item m items) p ≡ syntax_at (counted item n (items ++ x ∷ [])) q
  unfolding counted
  counted_step n x q more read = rw more (followed_by_ok item (λ y. counted item n (items ++ y ∷ [])) p x q read)

  pub counted_stop : (n : ℕ) (e : E) → m ≡ suc n → syntax_at item p ≡ Err e → syntax_at (counted item m items) p ≡ Err e
  unfolding counted
  counted_stop n e more read = rw more (followed_by_err item (λ y. counted item n (items ++ y ∷ [])) p e read)

  pub counted_all : m ≡ 0 → syntax_at (counted item m items) p ≡ Ok (items, p)
  unfolding counted syntax_at
  counted_all none = rw none refl

-- one more up to an end is read, or the end, or a fault
module _ {F X E : Type 0} (table : Bool → Table F (Option X) E) (m : ℕ) (items : List X) (p : Place) where
  pub ended_step : (n : ℕ) (x : X) (q : Place) → m ≡ suc n → table_at (table true) p ≡ Ok (Some x, q) → syntax_at (ended table m items) p ≡ syntax_at (ended table n (items ++ x ∷ [])) q
  unfolding ended syntax_at
  ended_step n x q more read = rw (more, read) refl

  pub ended_end : (n : ℕ) (q : Place) → m ≡ suc n → table_at (table true) p ≡ Ok (None, q) → syntax_at (ended table m items) p ≡ Ok (items, q)
  unfolding ended syntax_at
  ended_end n q more read = rw (more, read) refl

  pub ended_stop : (n : ℕ) (e : E) → m ≡ suc n → table_at (table true) p ≡ Err e → syntax_at (ended table m items) p ≡ Err e
  unfolding ended syntax_at
  ended_stop n e more read = rw (more, read) refl

  pub ended_full : (y : Option X) (q : Place) → m ≡ 0 → table_at (table false) p ≡ Ok (y, q) → syntax_at (ended table m items) p ≡ Ok (items, q)
  unfolding ended syntax_at
  ended_full y q none read = rw (none, read) refl

  pub ended_full_stop : (e : E) → m ≡ 0 → table_at (table false) p ≡ Err e → syntax_at (ended table m items) p ≡ Err e
  unfolding ended syntax_at
  ended_full_stop e none read = rw (none, read) refl
