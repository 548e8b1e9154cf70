use Rattle.stream_edits.proofs.Rising.{HasRisen}
use Rattle.stream_edits.proofs.snapshots.ids.rise.Given as goal

-- the numbers so far rise
abbrev pub invariant-loop-number : goal.invariant-loop-number
invariant-loop-number l = HasRisen l.numbers l.number-index l.last
