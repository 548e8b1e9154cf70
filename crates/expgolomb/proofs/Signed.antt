-- The clauses of signed codes, from those of unsigned ones.
use Rattle.std.proofs.Common.{◌≡◌, ℕ, ◌↔◌, Bool, List, sym, ◌∙◌, ap, arith, ◌+◌, ◌≤◌, Result, Ok, Err, IfOk, IsErrOf, ℤ}
use Rattle.expgolomb.specs.declared.fault.CodeFault.{CodeFault}
use Rattle.expgolomb.specs.declared.fault.CodeFault.TheVariants.{Cut, TooLong}
use Rattle.expgolomb.specs.Bits.{Place}
use Rattle.expgolomb.specs.Codes.{Follows, IsSe, IsCut, IsTooLong, signed}
use Rattle.expgolomb.specs.Reading.{with_sign, ue_at, se_at, Gives}
use Rattle.expgolomb.proofs.ExpGolomb.{ok_is, ue_ok, cut_is, is_cut, long_is, is_long, ue_only, ue_near}

-- a signed value was read as an unsigned one
signed_read : (r : Result (ℕ × Place) CodeFault) (z : ℤ) (q : Place) → with_sign r ≡ Ok (z, q) → (k : ℕ) × (r ≡ Ok (k, q)) × (signed k ≡ z)
signed_read (Ok x) z q is =
    let same = ok_is _ (z, q) is in
    (x.0, ap (λ (p : Place). Ok (x.0, p)) (ap (λ (y : ℤ × Place). y.1) same), ap (λ (y : ℤ × Place). y.0) same)
signed_read (Err e) z q is = cc

error_read : (r : Result (ℕ × Place) CodeFault) (e : CodeFault) → with_sign r ≡ Err e → r ≡ Err e
error_read (Ok x) e is = cc
error_read (Err d) e is = cc

pub se_found : (r : Result ℤ CodeFault) (old new : Place) → Gives (λ v. v) r old new (se_at old) → IfOk r (λ v. (word : List Bool) × IsSe word v × Follows word old new)
unfolding se_at
se_found (Ok z) old new gives =
    let read = signed_read (ue_at old) z new gives in
    let code = ue_ok old (read.0, new) read.1 in
    (code.0, record { k = read.0; code = code.1; value = read.2 }, code.2)
se_found (Err e) old new gives = tt

pub se_cut : (r : Result ℤ CodeFault) (old new : Place) → Gives (λ v. v) r old new (se_at old) → IsErrOf r Cut ↔ IsCut old.rest
unfolding se_at
se_cut (Ok v) old new gives = (λ is. cc, λ cut. let no = is_cut old cut in let gives' : with_sign (ue_at old) ≡ Ok (v, new) = gives in let g = ap with_sign no in cc)
se_cut (Err e) old new gives = (λ is. cut_is old (error_read (ue_at old) Cut (let g = gives.0 in cc)), λ cut. let yes = ap with_sign (is_cut old cut) in let g = gives.0 in cc)

pub se_long : (r : Result ℤ CodeFault) (old new : Place) → Gives (λ v. v) r old new (se_at old) → IsErrOf r TooLong ↔ IsTooLong old.rest
unfolding se_at
se_long (Ok v) old new gives = (λ is. cc, λ long. let no = ap with_sign (is_long old long) in let g : with_sign (ue_at old) ≡ Ok (v, new) = gives in cc)
se_long (Err e) old new gives = (λ is. long_is old (error_read (ue_at old) TooLong (let g = gives.0 in cc)), λ long. let yes = ap with_sign (is_long old long) in let g = gives.0 in cc)

pub se_is : (p : Place) (k : ℕ) (q : Place) → ue_at p ≡ Ok (k, q) → se_at p ≡ Ok (signed k, q)
unfolding se_at
se_is p k q is = ap with_sign is

pub se_is_not : (p : Place) (e : CodeFault) → ue_at p ≡ Err e → se_at p ≡ Err e
unfolding se_at
se_is_not p e is = ap with_sign is

pub se_answer : (r : Result ℤ CodeFault) (old new : Place) → Gives (λ v. v) r old new (se_at old) → (word : List Bool) (v : ℤ) (after : Place) → IsSe word v → Follows word old after → (r ≡ Ok v) × (new ≡ after)
se_answer (Ok w) old new gives word v after code follows =
    let read = se_is old code.k after (ue_only word code.k old after code.code follows) in
    let same = ok_is (w, new) (v, after) (sym gives ∙ (read ∙ ap (λ (z : ℤ). Ok (z, after)) code.value)) in
    (ap (λ (x : ℤ × Place). Ok x.0) same, ap (λ (x : ℤ × Place). x.1) same)
se_answer (Err e) old new gives word v after code follows = let read = se_is old code.k after (ue_only word code.k old after code.code follows) in cc

pub se_advance : (r : Result ℤ CodeFault) (old new : Place) → Gives (λ v. v) r old new (se_at old) → new.before ≤ old.before + 63
unfolding se_at
se_advance (Ok z) old new gives = let read = signed_read (ue_at old) z new gives in ue_near old (read.0, new) read.1
se_advance (Err e) old new gives = omega (arith, ap (λ (p : Place). p.before) gives.1)

-- What is read of a signed code, by what is read of an unsigned one.
pub se_ok : (p : Place) (x : ℤ × Place) → se_at p ≡ Ok x → (word : List Bool) × IsSe word x.0 × Follows word p x.1
unfolding se_at
se_ok p x is =
    let read = signed_read (ue_at p) x.0 x.1 is in
    let code = ue_ok p (read.0, x.1) read.1 in
    (code.0, record { k = read.0; code = code.1; value = read.2 }, code.2)

pub se_only : (word : List Bool) (v : ℤ) (p new : Place) → IsSe word v → Follows word p new → se_at p ≡ Ok (v, new)
se_only word v p new code follows =
    se_is p code.k new (ue_only word code.k p new code.code follows) ∙ ap (λ (z : ℤ). Ok (z, new)) code.value

pub se_error : (p : Place) (e : CodeFault) → se_at p ≡ Err e → ue_at p ≡ Err e
unfolding se_at
se_error p e is = error_read (ue_at p) e is
