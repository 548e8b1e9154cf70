use Rattle.std.proofs.Common.{◌∙◌, ◌++◌, [], sym}
use Rattle.std.proofs.KnownBytes.{Appends-trans}
use Rattle.std.proofs.lemmas.Result.{err_from_is_err_and}
use Rattle.mend_run.specs.declared.running.MendFault.TheVariants.{Memory}
use Rattle.mend_run.proofs.Listening.{err-both, on-both}
use Rattle.mend_run.proofs.Progress.{breaks, breaks-passing, ends, memory-other, nothing-more}
use Rattle.mend_run.proofs.running.mend_last.Goals as goal

pub returns-in_err-rest-clause-ends : goal.returns-in_err-rest-clause-ends
returns-in_err-rest-clause-ends g c = λ known rest had heard over h.
    let p = err_from_is_err_and c.from_residual.result c.from_residual.ensures.1 in
    rw (p.1, p.2) (breaks known had heard Memory _ c.args.mender c.args.held.now rest _ _ _ c.args.told.now memory-other h)

pub returns-in_err-last-clause-ends : goal.returns-in_err-last-clause-ends
returns-in_err-last-clause-ends g c = λ known rest had heard over h.
    let p = err_from_is_err_and c.from_residual-in_err-last.result c.from_residual-in_err-last.ensures.1 in
    rw (p.1, p.2) (breaks known had heard Memory _ c.args.mender c.args.held.now rest _ _ _ c.args.told.now memory-other h)

pub returns-clause-done : goal.returns-clause-done
returns-clause-done g c = λ known rest had heard over h.
    let last = c.in_ok-last.last in
    let whole = ends known had heard c.args.mender c.take.new.self c.args.held.now c.in_ok-rest.rest.now rest _ _ _ c.args.told.now
    last.bytes.items last.left_out.items over h
    (λ text written more said before. c.in_ok-rest.ensures.taken text written more said before)
    (λ text written said before. c.in_ok-last.ensures.bytes text written said before)
    (λ text written said before. c.in_ok-last.ensures.told text written said before) in
    on-both c.pass_on.result
    (λ got tells. record {
      said = h.said ++ last.left_out.items;
      tells = tells;
      mends = λ text is. (
        rw (sym (whole text is).0) (Appends-trans had _ _ h.written last.bytes.items h.got got),
        (whole text is).1,
      );
    })
    c.pass_on.ensures.written (c.pass_on.ensures.told heard h.said h.tells)

pub returns-clause-ends : goal.returns-clause-ends
returns-clause-ends g c = λ known rest had heard over h.
    let last = c.in_ok-last.last in
    let whole = ends known had heard c.args.mender c.take.new.self c.args.held.now c.in_ok-rest.rest.now rest _ _ _ c.args.told.now
    last.bytes.items last.left_out.items over h
    (λ text written more said before. c.in_ok-rest.ensures.taken text written more said before)
    (λ text written said before. c.in_ok-last.ensures.bytes text written said before)
    (λ text written said before. c.in_ok-last.ensures.told text written said before) in
    err-both c.pass_on.result _ _
    (λ same fault passes. rw (same.0, same.1)
    (breaks-passing known had heard fault _ c.args.mender rest _ _ _ _ c.args.told.now last.bytes.items h passes
    (λ text is. (
      ([], sym (whole text is).0 ∙ nothing-more (h.written ++ last.bytes.items)),
      (last.left_out.items, sym (whole text is).1),
    ))))
    c.pass_on.ensures.err c.pass_on.ensures.unwritten
