use Rattle.std.proofs.Common.{◌≡◌, ℤ, Bool, true, false, sym, ◌∙◌, rules, int_le, ◌&&◌}
use Rattle.std.proofs.lemmas.Int.{to_z-of_z}
use mir.Val.{to_z, of_z, SFits}
use mir.Syntax.{w32}
use Rattle.expgolomb.proofs.FieldLaws.{se_value, se_outside, se_fault}
use Rattle.expgolomb.proofs.fields.se.Goals as goal

-- the test speaks of the numbers as they are
tested : (least most v : ℤ) (test answer : Bool) → SFits w32 least → SFits w32 most → SFits w32 v → test ≡ (int_le (to_z w32 (of_z w32 least)) (to_z w32 (of_z w32 v)) && int_le (to_z w32 (of_z w32 v)) (to_z w32 (of_z w32 most))) → test ≡ answer → (int_le least v && int_le v most) ≡ answer
tested least most v test answer a b c is so =
    let same : test ≡ (int_le least v && int_le v most) = rw (to_z-of_z w32 least a, to_z-of_z w32 most b, to_z-of_z w32 v c) at is in
    sym same ∙ so

pub returns-in-Ok-clause-exact : goal.returns-in-Ok-clause-exact
returns-in-Ok-clause-exact g c =
    let fits : SFits w32 c.in-Ok.v = search rules in
    let within = tested c.args.least c.args.most c.in-Ok.v c.is_within.result true c.ranges.least c.ranges.most fits c.is_within.ensures c.if-is_within.true in
    rw (to_z-of_z w32 c.in-Ok.v fits) (se_value c.args.least c.args.most c.args.cut c.args.wrong c.args.bits.now c.in-Ok.v c.se.new.self c.in-Ok.ensures.exact within)

pub returns-in-Ok-2-clause-exact : goal.returns-in-Ok-2-clause-exact
returns-in-Ok-2-clause-exact g c =
    let fits : SFits w32 c.in-Ok.v = search rules in
    let outside = tested c.args.least c.args.most c.in-Ok.v c.is_within.result false c.ranges.least c.ranges.most fits c.is_within.ensures c.if-is_within.false in
    se_outside c.args.least c.args.most c.args.cut c.args.wrong c.args.bits.now c.in-Ok.v c.se.new.self c.in-Ok.ensures.exact outside

pub returns-clause-exact : goal.returns-clause-exact
returns-clause-exact g c = se_fault c.args.least c.args.most c.args.cut c.args.wrong c.args.bits.now c.in-Err.fault c.in-Err.ensures.exact.0 ∙ sym c.which.ensures
