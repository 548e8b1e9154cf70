use Rattle.std.proofs.Common.{refl, ◌∙◌}
use Rattle.std.proofs.lemmas.Result.{err_from_is_err_and}
use Rattle.param_sets.proofs.CountTypes.{type_zero, type_two, type_one_fault, cycle_fault, cycle_read}
use Rattle.param_sets.proofs.seq_parameter_set.counts.Goals as goal

pub returns-in-Zero : goal.returns-in-Zero
returns-in-Zero c = type_zero c.args.sps.now c.type_zero.new.sps c.args.bits.now c.type_zero.new.bits c.type_zero.result c.type_zero.ensures.same c.type_zero.ensures.exact

pub returns-in-Two : goal.returns-in-Two
returns-in-Two c = type_two c.args.sps.now c.args.bits.now c.in-Two.is

pub returns-in_err-type_one-in-One : goal.returns-in_err-type_one-in-One
returns-in_err-type_one-in-One c =
    let p = err_from_is_err_and c.from_residual.result c.from_residual.ensures.1 in
    rw (p.1, p.2) (type_one_fault c.args.sps.now c.args.bits.now c.in_err-type_one-in-One.field-0.0 c.in-One.is c.in_err-type_one-in-One.ensures.exact)

pub returns-in_err-sps-in-One : goal.returns-in_err-sps-in-One
returns-in_err-sps-in-One c =
    let p = err_from_is_err_and c.from_residual-in_err-sps-in-One.result c.from_residual-in_err-sps-in-One.ensures.1 in
    let t = c.type_one.new.sps in
    rw (p.1, p.2) (cycle_fault c.args.sps.now t c.args.bits.now c.type_one.new.bits c.in_err-sps-in-One.field-0.0 c.in-One.is c.in_ok-type_one-in-One.ensures.exact (c.type_one.ensures.none ∙ c.requires) (c.in_err-sps-in-One.ensures t (c.type_one.ensures.same, refl)))

pub returns-in_ok-sps-in-One : goal.returns-in_ok-sps-in-One
returns-in_ok-sps-in-One c =
    let t = c.type_one.new.sps in
    cycle_read c.args.sps.now t c.args.bits.now c.type_one.new.bits c.cycle.new.bits c.in_ok-sps-in-One.field-0 c.in-One.is c.in_ok-type_one-in-One.ensures.exact (c.type_one.ensures.none ∙ c.requires) (c.in_ok-sps-in-One.ensures t (c.type_one.ensures.same, refl))
