use Rattle.plan_stream.proofs.Texts.{no_units_in_front, read_all, read_more, read_none}
use Rattle.plan_stream.proofs.front.fronts.Goals as goal

pub returns : goal.returns
returns c = record {
  none = λ text. read_none text;
  more = λ text left front rest done part read is has. read_more text done left front rest read is part has;
  all = λ text done read some. read_all text done read some;
  unsplit = λ text left front rest done read some is none units has. no_units_in_front text done left front rest read is some none units has;
}
