use Rattle.serve_calls.proofs.remembering.take_in.Goals as goal

pub returns-in-Some-clause-goes : goal.returns-in-Some-clause-goes
returns-in-Some-clause-goes c = λ edit before id after follows none makes states first way. record {
  is = c.made.ensures.follows edit states first before id after (rw c.in-Some.is at follows) way makes;
  more = c.made.ensures.more;
}
