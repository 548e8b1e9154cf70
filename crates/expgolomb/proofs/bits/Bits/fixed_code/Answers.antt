use Rattle.std.proofs.Common.{◌-◌, ◌/◌, ◌^◌, ◌<◌, ◌≤◌, ℕ, length, sym, arith}
use Rattle.std.proofs.Math.Nat.{pow-le-pow_right}
use Rattle.expgolomb.specs.Bits.{Place}
use Rattle.expgolomb.specs.Window.{IsWindow}
use Rattle.expgolomb.proofs.Windows.{front_of_window, front-lt}
use Rattle.expgolomb.proofs.ExpGolomb.{fixed_long}
use Rattle.expgolomb.proofs.bits.Bits.fixed_code.Goals as goal

-- n bits fit
fits : (p : Place) (word n : ℕ) → IsWindow p.rest word → n ≤ 32 → n ≤ length p.rest → word / 2 ^ (64 - n) < 2 ^ 32
fits p word n w few left =
    omega (arith, front_of_window p.rest word n w (omega arith) left, front-lt p.rest n left, pow-le-pow_right {n = 2} (omega arith) {i = n} {j = 32} few)

pub overflow_cast-result : goal.overflow_cast-result
overflow_cast-result c =
    omega (arith, fits c.args.self.now c.window.result c.args.n c.window.ensures c.requires.few (c.has.ensures.0 c.if-not-has.false))

pub returns : goal.returns
returns c =
    let left = c.has.ensures.0 c.if-not-has.false in
    let front = front_of_window c.args.self.now.rest c.window.result c.args.n c.window.ensures (omega (arith, c.requires.few)) left in
    rw (front, c.ahead.ensures) (sym (fixed_long c.args.n c.args.self.now left))
