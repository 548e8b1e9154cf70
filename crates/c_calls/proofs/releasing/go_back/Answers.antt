-- One surface more goes back, and is told behind those before it.
use Rattle.std.proofs.Common.{◌∙◌, ℕ, ◌<◌, List, [], ◌∷◌, ◌++◌, length, length-append, length-set, set, ap, arith}
use Rattle.c_calls.proofs.GoneBack.{Release-more, filled-more}
use Rattle.c_calls.proofs.releasing.go_back.Goals as goal

pub loop-index-preserved : goal.loop-index-preserved
loop-index-preserved c =
    let so_far = c.loop-index.invariant.back in
    let surface = c.in-Some.found in
    let short : c.loop-index.index < length c.args.surfaces.now =
    omega (arith, c.loop-index-test.true, c.loop-index.auto.index-end, c.loop-index.invariant.long) in
    record {
      back = (
        so_far.0 ++ surface ∷ [],
        Release-more c.args.session.now so_far.0 c.loop-index.session surface c.take_released.new.self so_far.1 c.in-Some.ensures,
        omega (arith, length-append so_far.0 (surface ∷ []), so_far.2),
        ap (λ (told : List ℕ). set told c.loop-index.index (surface.handle)) so_far.3
            ∙ filled-more so_far.0 surface c.args.surfaces.now c.loop-index.index so_far.2 short,
      );
      long = length-set c.loop-index.surfaces c.loop-index.index (surface.handle) ∙ c.loop-index.invariant.long;
    }
