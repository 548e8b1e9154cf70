use Rattle.std.proofs.Common.{◌≡◌, ◌+◌, ◌-◌, ◌≤◌, ◌<◌, get_or, length, sym, ◌∙◌, arith}
use Rattle.std.proofs.lemmas.List.{get_or_read}
use Rattle.stream_edits.proofs.Fronts.{rest_less, rest_stops}
use Rattle.stream_edits.proofs.narrowing.common_rest.Goals as goal

pub loop-count-init : goal.loop-count-init
loop-count-init c =
    let in_old : c.args.front + c.min-count.result ≤ length c.args.old.now = omega (arith, c.min-count.ensures, c.min.ensures, c.requires.in_old, c.requires.in_new) in
    let in_new : c.args.front + c.min-count.result ≤ length c.args.new.now = omega (arith, c.min-count.ensures, c.min.ensures, c.requires.in_old, c.requires.in_new) in (
      rest_less c.args.old.now c.args.new.now c.args.known c.min-count.result c.requires.rest (omega (arith, c.min-count.ensures)),
      in_old,
      in_new,
    )

pub returns-then-not-is_same : goal.returns-then-not-is_same
returns-then-not-is_same c =
    let old = c.args.old.now in
    let new = c.args.new.now in
    let count = c.loop-count.count in
    let known = c.loop-count.invariant in
    let has_old : count < length old = omega (arith, c.loop-count-test.true, c.min.ensures) in
    let has_new : count < length new = omega (arith, c.loop-count-test.true, c.min.ensures) in
    let here : get_or old (length old - 1 - count) c.index-old-old.result ≡ c.index-old-old.result =
    sym (get_or_read old (length old - 1 - count) c.index-old-old.result (omega (arith, has_old)) c.index-old-old.is c.index-old-old.result) in
    let there : get_or new (length new - 1 - count) c.index-old-old.result ≡ c.index-new-new.result =
    sym (get_or_read new (length new - 1 - count) c.index-new-new.result (omega (arith, has_new)) c.index-new-new.is c.index-old-old.result) in
    rest_stops c.args.front old new count c.index-old-old.result known.0 known.1 known.2 has_old has_new
    (λ same.
    let both = c.is_same.ensures.1 (sym here ∙ (same ∙ there)) in
    let other = c.if-not-is_same.true in
    cc)
