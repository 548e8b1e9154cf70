use Rattle.std.proofs.Common.{sym, ◌∙◌, arith, length-drop}
use Rattle.stream_mending.proofs.Sequences.{found_here, found_later, none_found}
use Rattle.stream_mending.proofs.faults.has_forbidden.Goals as goal

pub returns-then-begins_forbidden : goal.returns-then-begins_forbidden
returns-then-begins_forbidden c =
    let found = rw c.split_at.ensures.back at c.in-Some.ensures in
    let here = rw c.split_at-in-Some.ensures.back at (sym c.begins_forbidden.ensures ∙ c.if-begins_forbidden.true) in
    sym (sym c.loop-ahead.invariant.same ∙ found_here c.args.bytes.now c.loop-ahead.at c.in-Some.ahead found here)

pub loop-ahead-preserved : goal.loop-ahead-preserved
loop-ahead-preserved c =
    let found = rw c.split_at.ensures.back at c.in-Some.ensures in
    let none = rw c.split_at-in-Some.ensures.back at (sym c.begins_forbidden.ensures ∙ c.if-begins_forbidden.false) in
    record {
      within = omega (arith, found.1.fits, length-drop c.loop-ahead.at c.args.bytes.now, c.loop-ahead.invariant.within);
      same = found_later c.args.bytes.now c.loop-ahead.at c.in-Some.ahead found none ∙ c.loop-ahead.invariant.same;
    }

pub returns : goal.returns
returns c =
    let nowhere = rw c.split_at.ensures.back at c.in_default.ensures in
    sym (sym c.loop-ahead.invariant.same ∙ none_found _ nowhere)
