use Rattle.std.proofs.Common.{refl}
use Rattle.serve_calls.proofs.replaying.Server+Journaled+B+K+S.resume.Goals as goal

pub returns : goal.returns
returns g c = record {
  kept = c.in_ok-kept.kept;
  done = c.replay_steps.new.self;
  replays = c.in_ok-kept.ensures;
  journal_is = refl;
  forgets = c.forget.ensures;
  sums = refl;
  source = refl;
}
