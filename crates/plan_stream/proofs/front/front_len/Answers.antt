use Rattle.std.proofs.Common.{◌≡◌, ◌+◌, ap, sym, arith, ◌∙◌, length-drop}
use Rattle.plan_stream.proofs.Needles.{end_found, step_ends, step_goes}
use Rattle.plan_stream.proofs.front.front_len.Goals as goal

pub returns-then-has_boundary-clause-found : goal.returns-then-has_boundary-clause-found
returns-then-has_boundary-clause-found c = λ more over.
    let at = c.loop-ahead.at in
    let found = rw c.split_at.ensures.back at c.in-Some.ensures in
    let seen = rw c.split_at-in-Some.ensures.back at (c.is_seen.ensures.seen c.if-not-is_seen.false more over) in
    let there = rw c.split_at-in-Some.ensures.back at (sym c.has_boundary.ensures ∙ c.if-has_boundary.true) in
    c.loop-ahead.invariant.so_far more over
    ∙ ap (λ n. at + n) (step_ends c.args.bytes.now more at c.in-Some.ahead c.loop-ahead.has_slice found seen there)

pub loop-ahead-preserved : goal.loop-ahead-preserved
loop-ahead-preserved c =
    let bytes = c.args.bytes.now in
    let at = c.loop-ahead.at in
    let ahead = c.in-Some.ahead in
    let found = rw c.split_at.ensures.back at c.in-Some.ensures in
    let next : at + ahead + 3 ≡ at + (ahead + 3) = omega arith in
    record {
      within = omega (arith, found.1.fits, length-drop at bytes, c.loop-ahead.invariant.within);
      so_far = λ more over.
          let seen = rw c.split_at-in-Some.ensures.back at (c.is_seen.ensures.seen c.if-not-is_seen.false more over) in
          let none = rw c.split_at-in-Some.ensures.back at (sym c.has_boundary.ensures ∙ c.if-has_boundary.false) in
          let goes = step_goes bytes more at ahead c.loop-ahead.has_slice found seen none in
          rw (c.is_slice-has_slice.ensures, c.split_at-in-Some.ensures.back, ← next) (c.loop-ahead.invariant.so_far more over ∙ omega (arith, goes));
    }

pub returns-clause-found : goal.returns-clause-found
returns-clause-found c =
    let none = rw c.split_at.ensures.back at c.in_default.ensures in
    rw c.then_some.ensures (end_found c.args.bytes.now c.loop-ahead.at c.loop-ahead.has_slice c.args.is_over c.loop-ahead.invariant.within c.loop-ahead.invariant.so_far none)
