use Rattle.std.proofs.Common.{◌∙◌, arith}
use Rattle.stream_mending.proofs.Trims.{trimmed-last_zero, trimmed-last}
use Rattle.stream_mending.proofs.pieces.trimmed_len.Goals as goal

pub loop-len-preserved : goal.loop-len-preserved
loop-len-preserved c = record {
  within = omega arith;
  same =
      trimmed-last_zero c.args.bytes.now c.loop-len.len c.loop-len-test.true c.loop-len.invariant.within c.if-bytes-len-eq0.true
      ∙ c.loop-len.invariant.same;
}

pub returns-else-bytes-len-eq0-clause-value : goal.returns-else-bytes-len-eq0-clause-value
returns-else-bytes-len-eq0-clause-value c =
    trimmed-last c.args.bytes.now c.loop-len.len c.loop-len-test.true c.loop-len.invariant.within c.if-bytes-len-eq0.false
    ∙ c.loop-len.invariant.same
