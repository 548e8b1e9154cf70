use Rattle.std.proofs.Common.{◌≡◌, ◌∷◌, ◌++◌, map, [], take, ap, sym, ◌∙◌, ◌+◌}
use Rattle.std.proofs.lemmas.List.{take_more, get_or_read}
use Rattle.slice_reading.specs.Numbers.{gathered}
use Rattle.slice_reading.specs.Gathering.{gathered_after}
use Rattle.slice_reading.specs.Slices.{slice_at}
use Rattle.slice_reading.proofs.Gathering.{gathered-map-more}
use Rattle.slice_reading.proofs.slices.read_slices.Goals as goal

pub loop-nal-preserved : goal.loop-nal-preserved
loop-nal-preserved c =
    c.in_ok-add_slice.ensures
    ∙ (ap (λ found. gathered_after found (slice_at c.args.tables.now c.nal-item.result)) c.loop-nal.invariant
    ∙ (sym (gathered-map-more (slice_at c.args.tables.now) (take c.loop-nal.nal-index c.args.nals.now) c.nal-item.result)
    ∙ ap (λ nals. gathered (map (slice_at c.args.tables.now) nals)) (sym more)))
  where
    more : take (c.loop-nal.nal-index + 1) c.args.nals.now ≡ take c.loop-nal.nal-index c.args.nals.now ++ c.nal-item.result ∷ []
    more =
        take_more c.args.nals.now c.loop-nal.nal-index [] c.loop-nal-test.true
        ∙ ap (λ nal. take c.loop-nal.nal-index c.args.nals.now ++ nal ∷ []) (sym (get_or_read c.args.nals.now c.loop-nal.nal-index c.nal-item.result c.loop-nal-test.true c.nal-item.is []))
