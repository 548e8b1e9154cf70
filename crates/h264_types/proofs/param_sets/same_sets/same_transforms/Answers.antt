use Rattle.std.proofs.Common.{arith}
use Rattle.std.proofs.lemmas.Bool.Decides.{Decides-at}
use Rattle.h264_types.proofs.SameSets.{lists_same}
use Rattle.h264_types.proofs.param_sets.same_sets.same_transforms.Goals as goal

pub returns-then-a-b-2 : goal.returns-then-a-b-2
returns-then-a-b-2 c =
    let same = lists_same c.as_slice.result.now c.as_slice-then-a-b-2.result.now in
    let lists = Decides-at c.eq.result _ c.eq.ensures same in
    grind (arith, lists.0, lists.1)
