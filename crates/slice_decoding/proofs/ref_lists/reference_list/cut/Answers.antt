use Rattle.std.proofs.Common.{◌≡◌, length, ap, ◌∙◌, arith, slice_get, refl}
use Rattle.std.proofs.lemmas.Grind.{common_steps}
use Rattle.std.proofs.lemmas.Option.{gets}
use Rattle.slice_decoding.proofs.Entries.{length-cut, cut_more}
use Rattle.slice_decoding.proofs.ref_lists.reference_list.cut.Goals as goal

pub push-requires : goal.push-requires
push-requires c =
    let long : length c.loop-index.entries.items ≡ c.loop-index.index = ap length c.loop-index.invariant ∙ length-cut c.loop-index.index c.args.places.now in
    (omega arith, omega arith)

pub loop-index-preserved : goal.loop-index-preserved
loop-index-preserved c =
    let read : c.copied.result ≡ slice_get c.args.places.now c.loop-index.index = grind (arith, common_steps, gets) in
    rw (c.push.ensures.items, c.loop-index.invariant, cut_more c.loop-index.index c.args.places.now, read) refl
