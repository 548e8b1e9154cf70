-- The answer has the text's units or its fault, and a text has no two of these.
use Rattle.annexb.specs.declared.fault.SplitFault.TheVariants.{NoStartCode, ForbiddenBytes, EmptyUnit, Memory}
use Rattle.annexb.proofs.Refusals.{one_fault, answer_only, answer_fault}
use Rattle.annexb.proofs.byte_stream.split.Goals as goal

pub returns-in-Some-clause-only : goal.returns-in-Some-clause-only
returns-in-Some-clause-only c =
    answer_only c.args.text.now (λ units. units.items) c.units_from.result c.units_from.ensures.ok c.units_from.ensures.err

pub returns-in-Some-clause-forbidden : goal.returns-in-Some-clause-forbidden
returns-in-Some-clause-forbidden c = λ at.
    answer_fault c.args.text.now (λ units. units.items) c.units_from.result c.units_from.ensures.ok c.units_from.ensures.err (ForbiddenBytes at) (λ same. cc)

pub returns-in-Some-clause-empty : goal.returns-in-Some-clause-empty
returns-in-Some-clause-empty c = λ at.
    answer_fault c.args.text.now (λ units. units.items) c.units_from.result c.units_from.ensures.ok c.units_from.ensures.err (EmptyUnit at) (λ same. cc)

pub returns-in-None-clause-only : goal.returns-in-None-clause-only
returns-in-None-clause-only c = λ units h. (tt, one_fault c.args.text.now NoStartCode Memory c.in-None.ensures (units, h))
