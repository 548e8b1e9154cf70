use Rattle.std.proofs.Common.{◌≡◌, ℕ, List, drop, sym, ap, subst, ◌∙◌}
use Rattle.expgolomb.specs.Bits.{Place, bits_of}
use Rattle.expgolomb.specs.Window.{IsWindow}
use Rattle.expgolomb.proofs.Numbers.{rest-start}
use Rattle.expgolomb.proofs.bits.Bits.window.Goals as goal

pub returns : goal.returns
returns c =
    let self = c.self.inside in
    let rest : c.args.self.now.rest ≡ drop self.bit (bits_of (drop self.at self.bytes.now)) =
    ap (λ (p : Place). p.rest) (sym c.self.view_is) ∙ rest-start self.bytes.now self.at self.bit in
    rw rest (subst (λ (bytes : List ℕ). IsWindow (drop self.bit (bits_of bytes)) c.window.result) c.split_at.ensures.back c.window.ensures)
