-- What is read of n bits.
use Rattle.std.proofs.Common.{◌≡◌, ℕ, ◌+◌, ◌<◌, ◌≤◌, Bool, List, ◌++◌, length, take, drop, sym, ◌∙◌, ap, arith, inl, inr, Ok, Err}
use Rattle.std.proofs.lemmas.Bool.{cases_lt}
use Rattle.std.proofs.lemmas.List.{length-append, length-take-le, take-append-drop, take_at, drop_at}
use Rattle.expgolomb.specs.declared.fault.CodeFault.TheVariants.{Cut, TooLong}
use Rattle.expgolomb.specs.Bits.{number, Place, skip}
use Rattle.expgolomb.specs.Codes.{Follows, IsFixed}
use Rattle.expgolomb.specs.Reading.{fixed_at}
use Rattle.expgolomb.proofs.ExpGolomb.{fixed_short, fixed_long, ok_is, same_place}

pub fixed_ok : (n : ℕ) (p : Place) (x : ℕ × Place) → fixed_at n p ≡ Ok x → (word : List Bool) × IsFixed n word x.0 × Follows word p x.1
fixed_ok n p x is =
    elim (cases_lt (length p.rest) n) [
      | inl short ↦ let none = fixed_short n p short in cc
      | inr left ↦
          let same = ok_is _ x (sym (fixed_long n p left) ∙ is) in
          let long = length-take-le n p.rest left in (
            take n p.rest,
            record { long = long; value = ap (λ (y : ℕ × Place). y.0) same },
            record {
              bits = sym (take-append-drop n p.rest) ∙ ap (λ (y : ℕ × Place). take n p.rest ++ y.1.rest) same;
              before = sym (ap (λ (y : ℕ × Place). y.1.before) same) ∙ ap (λ k. p.before + k) (sym long);
            },
          )
    ]

pub fixed_only : (n : ℕ) (word : List Bool) (v : ℕ) (p new : Place) → IsFixed n word v → Follows word p new → fixed_at n p ≡ Ok (v, new)
fixed_only n word v p new code follows =
    let left : n ≤ length p.rest = rw follows.bits (rw length-append (omega (arith, code.long))) in
    let value : number (take n p.rest) ≡ v = ap (λ bits. number (take n bits)) follows.bits ∙ (ap number (take_at word new.rest n code.long) ∙ code.value) in
    let rest : drop n p.rest ≡ new.rest = ap (drop n) follows.bits ∙ drop_at word new.rest n code.long in
    let place : skip n p ≡ new = same_place _ new (omega (arith, follows.before, code.long)) rest in
    fixed_long n p left ∙ (ap (λ k. Ok (k, skip n p)) value ∙ ap (λ q. Ok (v, q)) place)

pub fixed_cut_is : (n : ℕ) (p : Place) → fixed_at n p ≡ Err Cut → length p.rest < n
fixed_cut_is n p is =
    elim (cases_lt (length p.rest) n) [ inl short ↦ short | inr left ↦ let some = fixed_long n p left in cc ]

pub fixed_never_long : (n : ℕ) (p : Place) → fixed_at n p ≡ Err TooLong → ⊥
fixed_never_long n p is =
    elim (cases_lt (length p.rest) n) [
      | inl short ↦ let none = fixed_short n p short in cc
      | inr left ↦ let some = fixed_long n p left in cc
    ]
