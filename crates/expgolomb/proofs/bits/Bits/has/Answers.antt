-- n bits are left where the bytes that they end in are there.
use Rattle.std.proofs.Common.{◌≡◌, ◌+◌, ◌*◌, ◌-◌, length, sym, ap, ◌∙◌, arith}
use Rattle.std.proofs.lemmas.Bool.Decides.{nat_tests}
use Rattle.expgolomb.specs.Bits.{Place}
use Rattle.expgolomb.proofs.Numbers.{length-left}
use Rattle.expgolomb.proofs.bits.Bits.has.Goals as goal

pub returns : goal.returns
returns c =
    let self = c.self.inside in
    let left : length c.args.self.now.rest ≡ 8 * length self.bytes.now - (8 * self.at + self.bit) =
    ap (λ (p : Place). length p.rest) (sym c.self.view_is) ∙ length-left (8 * self.at + self.bit) self.bytes.now in
    let within = c.self.invariant in
    grind (arith, nat_tests)
