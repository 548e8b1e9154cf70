use Rattle.std.proofs.Common.{◌∙◌, ◌++◌, ◌-◌, ap, sym, drop, length}
use Rattle.std.proofs.KnownBytes.{Appends-trans}
use Rattle.std.proofs.lemmas.Result.{err_from_is_err_and}
use Rattle.mend_run.specs.declared.running.MendFault.TheVariants.{Memory}
use Rattle.stream_mending.proofs.Fronts.{front_more, said_first, written_first}
use Rattle.mend_run.proofs.Listening.{err-both, on-both}
use Rattle.mend_run.proofs.Progress.{breaks, breaks-passing, last-bytes, memory-other, takes}
use Rattle.mend_run.proofs.running.mend_held.Goals as goal

pub returns-in_err-rest-clause-ends : goal.returns-in_err-rest-clause-ends
returns-in_err-rest-clause-ends g c = λ known rest had heard h.
    let p = err_from_is_err_and c.from_residual.result c.from_residual.ensures.1 in
    rw (p.1, p.2) (breaks known had heard Memory _ c.args.mender.now c.args.held.now.items rest _ _ _ c.args.told.now memory-other h)

pub returns-in_err-tail-clause-ends : goal.returns-in_err-tail-clause-ends
returns-in_err-tail-clause-ends g c = λ known rest had heard h.
    let p = err_from_is_err_and c.from_residual-in_err-tail.result c.from_residual-in_err-tail.ensures.1 in
    rw (p.1, p.2) (breaks known had heard Memory _ c.args.mender.now c.args.held.now.items rest _ _ _ c.args.told.now memory-other h)

pub returns-clause-done : goal.returns-clause-done
returns-clause-done g c = λ known rest had heard h.
    let held = c.args.held.now.items in
    let left = c.in_ok-rest.field-0.now in
    let suffix = rw c.deref.ensures.value at c.in_ok-rest.ensures.rest in
    let size = rw c.deref.ensures.value at c.deref.ensures.len in
    let tail_is =
    (rw c.len.ensures at c.in_ok-tail.ensures.tail) ∙ ap (λ n. drop (n - length left) held) (sym size)
    ∙ last-bytes held suffix.0 left suffix.1 in
    let taken = rw c.deref.ensures.value at c.in_ok-rest.ensures.taken in
    on-both c.pass_on.result
    (λ got tells. record {
      written = h.written ++ c.drain.result.bytes.items;
      said = h.said ++ c.drain.result.left_out.items;
      got = Appends-trans had _ _ h.written c.drain.result.bytes.items h.got got;
      tells = tells;
      mends = rw tail_is (takes known had heard c.args.mender.now c.take.new.self c.drain.new.self held left rest _ _ _ c.args.told.now
          c.drain.result.bytes.items c.drain.result.left_out.items h
          (λ text written more said before. taken text written more said before)
          (λ text written rest said before. c.drain.ensures text written rest said before));
    })
    c.pass_on.ensures.written (c.pass_on.ensures.told heard h.said h.tells)

pub returns-clause-ends : goal.returns-clause-ends
returns-clause-ends g c = λ known rest had heard h.
    let held = c.args.held.now.items in
    let left = c.in_ok-rest.field-0.now in
    let bytes = c.drain.result.bytes.items in
    let out = c.drain.result.left_out.items in
    let taken = rw c.deref.ensures.value at c.in_ok-rest.ensures.taken in
    err-both c.pass_on.result _ _
    (λ same fault passes. rw (same.0, same.1)
    (breaks-passing known had heard fault _ c.args.mender.now rest _ _ _ _ c.args.told.now bytes h passes
    (λ text is.
    let now = takes known had heard c.args.mender.now c.take.new.self c.drain.new.self held left rest _ _ _ c.args.told.now bytes out h
    (λ text written more said before. taken text written more said before)
    (λ text written rest said before. c.drain.ensures text written rest said before) text is in (
      written_first text (h.written ++ bytes) (h.said ++ out) now.0 c.drain.new.self now.2,
      front_more h.said out _ (said_first text (h.written ++ bytes) (h.said ++ out) now.0 c.drain.new.self now.2),
    ))))
    c.pass_on.ensures.err c.pass_on.ensures.unwritten
