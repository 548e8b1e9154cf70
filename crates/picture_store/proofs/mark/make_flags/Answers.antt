use Rattle.std.proofs.Common.{◌∙◌, ap}
use Rattle.picture_store.specs.Marks.{is_flagged}
use Rattle.picture_store.proofs.Flags.{flagged_more}
use Rattle.picture_store.proofs.mark.make_flags.Goals as goal

pub loop-flags-preserved : goal.loop-flags-preserved
loop-flags-preserved c = λ other.
    ap (λ flags. is_flagged flags other) c.in_ok-push.ensures.items
    ∙ (flagged_more c.loop-flags.flags.items other ∙ c.loop-flags.invariant other)
