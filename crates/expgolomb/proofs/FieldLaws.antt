-- What the functions that read one field answer.
use Rattle.std.proofs.Common.{◌≡◌, ℕ, ◌<◌, ◌≤◌, Bool, true, false, cond, Option, Result, Ok, Err, ℤ, pos, refl, ◌∙◌, ap, int_le, ◌&&◌}
use Rattle.std.proofs.lemmas.Bool.{le-leb, lt-leb}
use Rattle.expgolomb.specs.declared.fault.CodeFault.{CodeFault}
use Rattle.expgolomb.specs.declared.fault.CodeFault.TheVariants.{Cut, TooLong}
use Rattle.expgolomb.specs.Bits.{Place}
use Rattle.expgolomb.specs.Reading.{fixed_at, ue_at, se_at}
use Rattle.expgolomb.proofs.ExpGolomb.{ok_is}
use Rattle.expgolomb.specs.Grammar.{Code, Fixed, Unsigned, Signed}
use Rattle.expgolomb.specs.TableReading.{unsigned, code_at, in_range, checked, value_at}
use Rattle.expgolomb.specs.Ranges.{any, at_most, between}
use Rattle.expgolomb.specs.Answer.{flag_value}

pub fixed_value : {E : Type 0} (n : ℕ) (cut : E) (p : Place) (v : ℕ) (q : Place) → fixed_at n p ≡ Ok (v, q) → value_at (Fixed n) cut cut any p ≡ Ok (pos v, q)
unfolding value_at
fixed_value n cut p v q is = ap (λ r. checked cut cut any (unsigned r)) is

pub fixed_cut : {E : Type 0} (n : ℕ) (cut : E) (p : Place) (e : CodeFault) → fixed_at n p ≡ Err e → value_at (Fixed n) cut cut any p ≡ Err cut
unfolding value_at
fixed_cut n cut p Cut is = ap (λ r. checked cut cut any (unsigned r)) is
fixed_cut n cut p TooLong is = ap (λ r. checked cut cut any (unsigned r)) is

pub flag_is : {E : Type 0} (cut : E) (p : Place) (bit : Bool) (q : Place) → fixed_at 1 p ≡ Ok (cond bit 1 0, q) → value_at (Fixed 1) cut cut any p ≡ Ok (flag_value bit, q)
unfolding value_at
flag_is cut p true q is = ap (λ r. checked cut cut any (unsigned r)) is
flag_is cut p false q is = ap (λ r. checked cut cut any (unsigned r)) is

pub ue_value : {E : Type 0} (most : ℕ) (cut wrong : E) (p : Place) (v : ℕ) (q : Place) → ue_at p ≡ Ok (v, q) → v ≤ most → value_at Unsigned cut wrong (at_most most wrong) p ≡ Ok (pos v, q)
unfolding value_at
ue_value most cut wrong p v q is fits = ap (λ r. checked cut wrong (at_most most wrong) (unsigned r)) is ∙ rw (le-leb v most fits) refl

pub ue_above : {E : Type 0} (most : ℕ) (cut wrong : E) (p : Place) (v : ℕ) (q : Place) → ue_at p ≡ Ok (v, q) → most < v → value_at Unsigned cut wrong (at_most most wrong) p ≡ Err wrong
unfolding value_at
ue_above most cut wrong p v q is above = ap (λ r. checked cut wrong (at_most most wrong) (unsigned r)) is ∙ rw (lt-leb v most above) refl

pub ue_fault : {E : Type 0} (most : ℕ) (cut wrong : E) (p : Place) (e : CodeFault) → ue_at p ≡ Err e → value_at Unsigned cut wrong (at_most most wrong) p ≡ checked cut wrong any (Err e)
unfolding value_at
ue_fault most cut wrong p Cut is = ap (λ r. checked cut wrong (at_most most wrong) (unsigned r)) is
ue_fault most cut wrong p TooLong is = ap (λ r. checked cut wrong (at_most most wrong) (unsigned r)) is

pub se_fault : {E : Type 0} (least most : ℤ) (cut wrong : E) (p : Place) (e : CodeFault) → se_at p ≡ Err e → value_at Signed cut wrong (between least most wrong) p ≡ checked cut wrong any (Err e)
unfolding value_at
se_fault least most cut wrong p Cut is = ap (λ r. checked cut wrong (between least most wrong) r) is
se_fault least most cut wrong p TooLong is = ap (λ r. checked cut wrong (between least most wrong) r) is

pub se_value : {E : Type 0} (least most : ℤ) (cut wrong : E) (p : Place) (v : ℤ) (q : Place) → se_at p ≡ Ok (v, q) → (int_le least v && int_le v most) ≡ true → value_at Signed cut wrong (between least most wrong) p ≡ Ok (v, q)
unfolding value_at
se_value least most cut wrong p v q is within = ap (λ r. checked cut wrong (between least most wrong) r) is ∙ rw within refl

pub se_outside : {E : Type 0} (least most : ℤ) (cut wrong : E) (p : Place) (v : ℤ) (q : Place) → se_at p ≡ Ok (v, q) → (int_le least v && int_le v most) ≡ false → value_at Signed cut wrong (between least most wrong) p ≡ Err wrong
unfolding value_at
se_outside least most cut wrong p v q is outside = ap (λ r. checked cut wrong (between least most wrong) r) is ∙ rw outside refl

-- a value of a narrower range: what was read, if it is in it
pub narrow_ok : {E : Type 0} (code : Code) (cut long : E) (wrong : ℤ → Option E) (p : Place) (v : ℤ) (q : Place) → value_at code cut long any p ≡ Ok (v, q) → value_at code cut long wrong p ≡ in_range (wrong v) (v, q)
unfolding value_at
narrow_ok {E} code cut long wrong p v q is = go (code_at code p) is
  where
    go : (r : Result (ℤ × Place) CodeFault) → checked cut long any r ≡ Ok (v, q) → checked cut long wrong r ≡ in_range (wrong v) (v, q)
    go (Ok y) found = ap (λ (z : ℤ × Place). in_range (wrong z.0) z) (ok_is _ _ found)
    go (Err Cut) found = cc
    go (Err TooLong) found = cc

pub narrow_err : {E : Type 0} (code : Code) (cut long : E) (wrong : ℤ → Option E) (p : Place) (e : E) → value_at code cut long any p ≡ Err e → value_at code cut long wrong p ≡ Err e
unfolding value_at
narrow_err {E} code cut long wrong p e is = go (code_at code p) is
  where
    go : (r : Result (ℤ × Place) CodeFault) → checked cut long any r ≡ Err e → checked cut long wrong r ≡ Err e
    go (Ok y) found = cc
    go (Err Cut) found = found
    go (Err TooLong) found = found

pub ue_number : {E : Type 0} (cut wrong : E) (p : Place) (v : ℕ) (q : Place) → ue_at p ≡ Ok (v, q) → value_at Unsigned cut wrong any p ≡ Ok (pos v, q)
unfolding value_at
ue_number cut wrong p v q is = ap (λ r. checked cut wrong any (unsigned r)) is

pub ue_refused : {E : Type 0} (cut wrong : E) (p : Place) (e : CodeFault) → ue_at p ≡ Err e → value_at Unsigned cut wrong any p ≡ checked cut wrong any (Err e)
unfolding value_at
ue_refused cut wrong p e is = ap (λ r. checked cut wrong any (unsigned r)) is

pub se_number : {E : Type 0} (cut wrong : E) (p : Place) (v : ℤ) (q : Place) → se_at p ≡ Ok (v, q) → value_at Signed cut wrong any p ≡ Ok (v, q)
unfolding value_at
se_number cut wrong p v q is = ap (λ r. checked cut wrong any r) is

pub se_refused : {E : Type 0} (cut wrong : E) (p : Place) (e : CodeFault) → se_at p ≡ Err e → value_at Signed cut wrong any p ≡ checked cut wrong any (Err e)
unfolding value_at
se_refused cut wrong p e is = ap (λ r. checked cut wrong any r) is

pub fixed_within : {E : Type 0} (n most : ℕ) (cut wrong : E) (p : Place) (v : ℕ) (q : Place) → fixed_at n p ≡ Ok (v, q) → v ≤ most → value_at (Fixed n) cut cut (at_most most wrong) p ≡ Ok (pos v, q)
fixed_within n most cut wrong p v q is fits =
    narrow_ok (Fixed n) cut cut (at_most most wrong) p (pos v) q (fixed_value n cut p v q is) ∙ rw (le-leb v most fits) refl

pub fixed_above : {E : Type 0} (n most : ℕ) (cut wrong : E) (p : Place) (v : ℕ) (q : Place) → fixed_at n p ≡ Ok (v, q) → most < v → value_at (Fixed n) cut cut (at_most most wrong) p ≡ Err wrong
fixed_above n most cut wrong p v q is above =
    narrow_ok (Fixed n) cut cut (at_most most wrong) p (pos v) q (fixed_value n cut p v q is) ∙ rw (lt-leb v most above) refl
