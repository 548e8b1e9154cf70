use Rattle.std.proofs.Common.{◌≡◌, ◌∷◌, ◌++◌, map, [], take, ap, sym, ◌∙◌, ◌+◌}
use Rattle.std.proofs.lemmas.List.{take_more, get_or_read}
use Rattle.slice_reading.specs.Numbers.{gathered}
use Rattle.slice_reading.specs.Gathering.{gathered_after}
use Rattle.request_core.specs.Fold.{listed}
use Rattle.slice_reading.proofs.Gathering.{gathered-map-more}
use Rattle.request_core.proofs.planning.list_slices.Goals as goal

pub loop-slice-preserved : goal.loop-slice-preserved
loop-slice-preserved c =
    c.in_ok-add.ensures.added (listed c.args.marks.now c.args.counts c.slice-item.result) c.list_slice.ensures
    ∙ (ap (λ found. gathered_after found (listed c.args.marks.now c.args.counts c.slice-item.result)) c.loop-slice.invariant
    ∙ (sym (gathered-map-more (listed c.args.marks.now c.args.counts) (take c.loop-slice.slice-index c.args.slices.now) c.slice-item.result)
    ∙ ap (λ slices. gathered (map (listed c.args.marks.now c.args.counts) slices)) (sym more)))
  where
    more : take (c.loop-slice.slice-index + 1) c.args.slices.now ≡ take c.loop-slice.slice-index c.args.slices.now ++ c.slice-item.result ∷ []
    more =
        take_more c.args.slices.now c.loop-slice.slice-index c.slice-item.result c.loop-slice-test.true
        ∙ ap (λ slice. take c.loop-slice.slice-index c.args.slices.now ++ slice ∷ []) (sym (get_or_read c.args.slices.now c.loop-slice.slice-index c.slice-item.result c.loop-slice-test.true c.slice-item.is c.slice-item.result))
