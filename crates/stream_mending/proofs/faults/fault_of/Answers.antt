use Rattle.std.proofs.Common.{◌<◌, sym, ◌∙◌, ap, arith, length}
use Rattle.std.proofs.lemmas.Bool.{eqb-true, eqb-false}
use Rattle.std.proofs.lemmas.Result.{IfOk-weaker}
use Rattle.stream_mending.specs.Faults.{coded_fault}
use Rattle.stream_mending.proofs.Sound.{fault_empty, fault_forbidden, fault_coded, IsUnit-from}
use Rattle.stream_mending.proofs.faults.fault_of.Goals as goal

pub returns-then-is_empty : goal.returns-then-is_empty
returns-then-is_empty c = fault_empty c.args.unit.now (eqb-true _ _ (sym c.is_empty.ensures ∙ c.if-is_empty.true))

pub returns-then-has_forbidden : goal.returns-then-has_forbidden
returns-then-has_forbidden c =
    let some : 0 < length c.args.unit.now = omega (arith, eqb-false _ _ (sym c.is_empty.ensures ∙ c.if-is_empty.false)) in
    fault_forbidden c.args.unit.now some (sym c.has_forbidden.ensures ∙ c.if-has_forbidden.true)

pub new-requires : goal.new-requires
new-requires c =
    let some : 0 < length c.args.unit.now = omega (arith, eqb-false _ _ (sym c.is_empty.ensures ∙ c.if-is_empty.false)) in
    IsUnit-from c.args.unit.now some (sym c.has_forbidden.ensures ∙ c.if-has_forbidden.false) c.requires

pub returns-else-has_forbidden : goal.returns-else-has_forbidden
returns-else-has_forbidden c =
    let some : 0 < length c.args.unit.now = omega (arith, eqb-false _ _ (sym c.is_empty.ensures ∙ c.if-is_empty.false)) in
    IfOk-weaker c.coded_fault.result _ _ (λ fault coded. coded ∙ ap coded_fault c.new.ensures
    ∙ fault_coded c.args.unit.now some (sym c.has_forbidden.ensures ∙ c.if-has_forbidden.false)) c.coded_fault.ensures
