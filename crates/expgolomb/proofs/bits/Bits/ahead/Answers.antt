use Rattle.std.proofs.Common.{◌≡◌, ◌+◌, ◌*◌, ◌-◌, ◌/◌, ◌%◌, length, sym, ap, ◌∙◌, arith}
use Rattle.expgolomb.specs.Bits.{Place, start}
use Rattle.expgolomb.proofs.Numbers.{length-left, skip-skip}
use Rattle.expgolomb.proofs.bits.Bits.ahead.Goals as goal

pub invariant_of-result : goal.invariant_of-result
invariant_of-result c =
    let self = c.self.inside in
    let left : length c.args.self.now.rest ≡ 8 * length self.bytes.now - (8 * self.at + self.bit) =
    ap (λ (p : Place). length p.rest) (sym c.self.view_is) ∙ length-left (8 * self.at + self.bit) self.bytes.now in
    let within = c.self.invariant in
    let n = c.requires.left in
    (omega arith, omega arith)

pub returns : goal.returns
returns c =
    let self = c.self.inside in
    let place : 8 * (self.at + (self.bit + c.args.n) / 8) + (self.bit + c.args.n) % 8 ≡ (8 * self.at + self.bit) + c.args.n = omega arith in
    rw (place, ← c.self.view_is) (sym (skip-skip (8 * self.at + self.bit) c.args.n (start self.bytes.now)))
