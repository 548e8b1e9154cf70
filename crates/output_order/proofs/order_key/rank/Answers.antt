use Rattle.std.proofs.Common.{ℕ, subst, ◌+◌, ◌-◌, ◌<◌, ◌/◌, length, ap, sym, ◌∙◌, arith}
use Rattle.std.proofs.lemmas.List.{get_or_default}
use Rattle.output_order.specs.OrderKeys.{is_first}
use Rattle.output_order.proofs.Halves.{narrowed_up, narrowed_down, rank_is}
use Rattle.output_order.proofs.Logarithms.{IsOnWay, way_halved, way_ends}
use Rattle.output_order.proofs.order_key.rank.Goals as goal

pub loop-low-preserved-then-is_shown_first : goal.loop-low-preserved-then-is_shown_first
loop-low-preserved-then-is_shown_first c =
    let loop = c.loop-low in
    let sorted = c.args.sorted.now in
    let middle = loop.low + (loop.high - loop.low) / 2 in
    let below : middle < loop.high = omega arith in
    let within : middle < length sorted = omega (arith, loop.invariant.narrowed.within) in
    record {
      narrowed = narrowed_up sorted c.requires.sorted c.args.key loop.low loop.high middle loop.invariant.narrowed (omega arith) below
          (λ d. ap (λ one. is_first one c.args.key) (get_or_default sorted middle d _ within) ∙ sym c.if-is_shown_first.ensures.answer);
      few = omega (arith, c.if-is_shown_first.ensures.counted, loop.invariant.few);
      way =
          subst (λ (made : ℕ). IsOnWay (length sorted) (loop.high - (middle + 1)) c.args.comparisons.now made) (sym c.if-is_shown_first.ensures.counted)
          (way_halved (length sorted) (loop.high - loop.low) (loop.high - (middle + 1)) c.args.comparisons.now loop.comparisons
          loop.invariant.way (omega arith) (omega arith) (omega arith));
    }

pub loop-low-preserved : goal.loop-low-preserved
loop-low-preserved c =
    let loop = c.loop-low in
    let sorted = c.args.sorted.now in
    let middle = loop.low + (loop.high - loop.low) / 2 in
    let below : middle < loop.high = omega arith in
    let within : middle < length sorted = omega (arith, loop.invariant.narrowed.within) in
    record {
      narrowed = narrowed_down sorted c.requires.sorted c.args.key loop.low loop.high middle loop.invariant.narrowed (omega arith) below
          (λ d. ap (λ one. is_first one c.args.key) (get_or_default sorted middle d _ within) ∙ sym c.if-is_shown_first.ensures.answer);
      few = omega (arith, c.if-is_shown_first.ensures.counted, loop.invariant.few);
      way =
          subst (λ (made : ℕ). IsOnWay (length sorted) (middle - loop.low) c.args.comparisons.now made) (sym c.if-is_shown_first.ensures.counted)
          (way_halved (length sorted) (loop.high - loop.low) (middle - loop.low) c.args.comparisons.now loop.comparisons
          loop.invariant.way (omega arith) (omega arith) (omega arith));
    }

pub returns-clause-rank : goal.returns-clause-rank
returns-clause-rank c =
    let loop = c.loop-low in
    rank_is c.args.sorted.now c.args.key loop.low loop.high loop.invariant.narrowed c.loop-low-test.false

pub returns-clause-searched : goal.returns-clause-searched
returns-clause-searched c =
    let loop = c.loop-low in
    way_ends (length c.args.sorted.now) (loop.high - loop.low) c.args.comparisons.now loop.comparisons loop.invariant.way
    (omega (arith, c.loop-low-test.false))
