use Rattle.access_unit.proofs.unit.split_units.Goals as goal

pub returns-in_default : goal.returns-in_default
returns-in_default c = record { ok = λ units has. c.in_default.not-Memory (c.in-Err.ensures.only units has).1; err = tt }
