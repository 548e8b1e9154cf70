use Rattle.std.proofs.Common.{refl}
use Rattle.serve_calls.proofs.server.Server.begin_from.Goals as goal

pub begin_anew-requires : goal.begin_anew-requires
begin_anew-requires g c = c.in_ok-session.ensures.1.refits.out_stays

pub returns-clause-made : goal.returns-clause-made
returns-clause-made g c = record {
  register = c.in_ok-read.read;
  is_of = c.in_ok-read.ensures.ok;
  capacity = c.in_ok-session.ensures.0;
  session = c.in_ok-session.session;
  begun = c.in_ok-session.ensures.1;
  is = c.begin_anew.ensures.anew;
  history = c.in_ok-history.ensures.begins c.in_ok-read.read c.in_ok-read.ensures.ok;
  sums = refl;
  source = refl;
}
