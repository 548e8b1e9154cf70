use Rattle.std.proofs.Common.{◌≡◌, ◌-◌, ◌+◌, ℕ, suc, [], ◌++◌, ◌∷◌, List, Bool, true, refl, sym, ap, ◌∙◌, arith, Ok, length, replicate, ◌≤◌, length-set, false}
use Rattle.std.proofs.Common.{take as front, set}
use Rattle.std.proofs.lemmas.Result.{err_from_is_err_and}
use Rattle.std.proofs.lemmas.List.{take_more_set, take_all}
use Rattle.expgolomb.specs.Bits.{Place}
use Rattle.expgolomb.specs.Answer.{flag_value}
use Rattle.expgolomb.specs.TableReading.{field_at, rows_at}
use Rattle.expgolomb.specs.Rows.{flag_of}
use Rattle.param_sets.specs.SpsSyntax.{take, flag_row, constraint_rows}
use Rattle.h264_types.specs.declared.param_sets.sps.Sps.{Sps}
use Rattle.expgolomb.proofs.Loops.{repeat_step, repeat_stop, rows_none}
use Rattle.param_sets.proofs.seq_parameter_set.constraint_set_flags.Goals as goal

-- a set with these flags
abbrev with_flags : Sps → List Bool → Sps
with_flags s flags = record s { constraint_set_flags = flags }

-- one more flag
more : (s : Sps) (flags after : List Bool) (b : Bool) (n m : ℕ) (p q : Place) → m ≡ suc n → field_at flag_row s p ≡ Ok (flag_value b, q) → after ≡ flags ++ b ∷ [] → rows_at take (replicate m flag_row) (with_flags s flags) p ≡ rows_at take (replicate n flag_row) (with_flags s after) q
more s flags after b n m p q rest read is =
    repeat_step take flag_row n m (with_flags s flags) p (flag_value b) q rest refl read ∙ ap (λ fs. rows_at take (replicate n flag_row) (with_flags s fs) q) (ap (λ bit. flags ++ bit ∷ []) (same b) ∙ sym is)
  where
    same : (b : Bool) → flag_of (flag_value b) ≡ b
    same true = refl
    same false = refl

-- all flags are read
done : (s : Sps) (flags : List Bool) (i : ℕ) (p : Place) → 6 ≤ i → length flags ≡ 6 → rows_at take (replicate (6 - i) flag_row) (with_flags s (front i flags)) p ≡ Ok (with_flags s flags, p)
done s flags i p past six =
    let none : 6 - i ≡ 0 = omega arith in
    rw (none, take_all i flags (omega arith)) (rows_none take (with_flags s flags) p)

pub loop-i-preserved : goal.loop-i-preserved
loop-i-preserved c =
    let flags = c.loop-i.flags in
    let i = c.loop-i.i in (
      omega (arith, length-set flags i c.in_ok-flags.field-0, c.loop-i.invariant.0),
      λ s. c.loop-i.invariant.1 s ∙ more s (front i flags) (front (i + 1) (set flags i c.in_ok-flags.field-0)) c.in_ok-flags.field-0 (6 - (i + 1)) (6 - i) c.loop-i.bits c.flag.new.bits (omega arith) c.in_ok-flags.ensures.exact (take_more_set flags i c.in_ok-flags.field-0 (omega (arith, c.loop-i.invariant.0))),
    )

pub returns-in_err-flags : goal.returns-in_err-flags
unfolding constraint_rows
returns-in_err-flags c s =
    let p = err_from_is_err_and c.from_residual.result c.from_residual.ensures.1 in
    rw (p.1, p.2) (c.loop-i.invariant.1 s ∙ repeat_stop take flag_row (6 - (c.loop-i.i + 1)) (6 - c.loop-i.i) (with_flags s (front c.loop-i.i c.loop-i.flags)) c.loop-i.bits c.in_err-flags.field-0.0 (omega arith) refl c.in_err-flags.ensures.exact)

pub returns : goal.returns
unfolding constraint_rows
returns c s = c.loop-i.invariant.1 s ∙ done s c.loop-i.flags c.loop-i.i c.loop-i.bits c.loop-i-test.false c.loop-i.invariant.0
