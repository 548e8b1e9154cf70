use Rattle.expgolomb.proofs.Windows.{window_is}
use Rattle.expgolomb.proofs.word.window.Goals as goal

pub returns : goal.returns
returns c = rw c.word.ensures (window_is c.args.bytes.now c.args.bit c.requires.bit c.requires.within)
