use Rattle.unit_printing.proofs.Ends.{ends-unread}
use Rattle.unit_printing.proofs.json.plan_json.plan_json_for.Goals as goal

pub returns-in-Err-clause-ends : goal.returns-in-Err-clause-ends
returns-in-Err-clause-ends g c failure =
    ends-unread g.J.Encoder.says (g.R.Read.remaining c.args.reader.now) c.args.name.now c.failed.result.told _
    (g.W.Write.contents c.args.console.now.output) _ _ _ c.in-Err.fault (rw c.failed.ensures c.say_input_fault.ensures)
