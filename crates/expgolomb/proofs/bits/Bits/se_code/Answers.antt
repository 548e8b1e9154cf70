use Rattle.std.proofs.Common.{rules, ◌≡◌, ℤ, Ok, sym, ◌∙◌, ap}
use Rattle.std.proofs.lemmas.Result.{err_from_is_err_and}
use Rattle.std.proofs.lemmas.Int.{to_z-of_z}
use mir.Val.{to_z, of_z, SFits}
use mir.Syntax.{w32}
use Rattle.expgolomb.specs.Codes.{signed}
use Rattle.expgolomb.proofs.Signed.{se_is, se_is_not}
use Rattle.expgolomb.proofs.bits.Bits.se_code.Goals as goal

pub returns-in_err-k : goal.returns-in_err-k
returns-in_err-k c = let p = err_from_is_err_and c.from_residual.result c.from_residual.ensures.1 in
    rw (p.1, p.2) (sym (se_is_not c.args.self.now c.in_err-k.field-0.0 (sym c.ue_code.ensures.exact ∙ c.in_err-k.was)))

pub returns : goal.returns
returns c =
    let read = se_is c.args.self.now c.in_ok-k.k c.in_ok-k.after (sym c.ue_code.ensures.exact ∙ c.in_ok-k.was) in
    let fits : SFits w32 c.signed.result = search rules in
    let same : to_z w32 (of_z w32 c.signed.result) ≡ signed c.in_ok-k.k = to_z-of_z w32 c.signed.result fits ∙ c.signed.ensures in
    ap (λ (z : ℤ). Ok (z, c.in_ok-k.after)) same ∙ sym read
