use Rattle.std.proofs.Common.{◌≡◌, ◌<◌, ◌≤◌, ℕ, Bool, true, false, length, not, inl, inr, arith}
use Rattle.std.proofs.lemmas.Bool.{cases_lt}
use Rattle.std.proofs.lemmas.List.Sums.{prefix_len-le-length}
use Rattle.expgolomb.proofs.Windows.{few_in_window, many_in_window}
use Rattle.expgolomb.proofs.ExpGolomb.{many_zeros, all_zeros}
use Rattle.expgolomb.proofs.bits.Bits.zeros.Goals as goal

pub returns-then-zeros-lt32 : goal.returns-then-zeros-lt32
returns-then-zeros-lt32 c =
    let one = few_in_window c.args.self.now.rest c.window-zeros.result c.window-zeros.ensures c.if-zeros-lt32.true in
    record { zeros = one.0; one = omega (arith, one.0, one.1); few = c.if-zeros-lt32.true }

pub returns-then-has : goal.returns-then-has
returns-then-has c =
    let left = c.has.ensures.0 c.if-has.true in
    many_zeros c.args.self.now
    (elim (many_in_window c.args.self.now.rest c.window-zeros.result c.window-zeros.ensures c.if-zeros-lt32.false) [ inl many ↦ many | inr all ↦ omega (arith, all) ])

-- no 32 bits are left
few_left : (left : ℕ) (has : Bool) → (32 ≤ left → has ≡ true) → has ≡ false → left < 32
few_left left has then none =
    elim (cases_lt left 32) [ inl few ↦ few | inr many ↦ let yes = then many in cc ]

pub returns-else-has : goal.returns-else-has
returns-else-has c =
    let rest = c.args.self.now.rest in
    let few = few_left (length rest) c.has.result c.has.ensures.1 c.if-has.false in
    all_zeros c.args.self.now
    (elim (many_in_window rest c.window-zeros.result c.window-zeros.ensures c.if-zeros-lt32.false) [
      | inl many ↦ absurd (omega (arith, many, prefix_len-le-length not rest))
      | inr all ↦ all
    ])
    few
