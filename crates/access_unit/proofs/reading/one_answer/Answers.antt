use Rattle.annexb.proofs.Readings.{same_reading}
use Rattle.access_unit.proofs.Texts.{never_refused, one_refusal}
use Rattle.access_unit.proofs.reading.one_answer.Goals as goal

pub returns-clause-accepted : goal.returns-clause-accepted
returns-clause-accepted c = λ text units others h h'. same_reading text units others h.has h'.has

pub returns-clause-not_refused : goal.returns-clause-not_refused
returns-clause-not_refused c = never_refused

pub returns-clause-refused : goal.returns-clause-refused
returns-clause-refused c = one_refusal
