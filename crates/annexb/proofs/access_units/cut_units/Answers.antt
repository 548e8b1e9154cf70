-- Each unit goes on with the open part or begins the next one, and the parts are the one cut.
use Rattle.std.proofs.Common.{◌≡◌, ◌&&◌, true, false, get_or, [], sym, arith}
use Rattle.std.proofs.lemmas.List.{get_or_read}
use Rattle.annexb.specs.AccessUnits.{begins_access_unit}
use Rattle.annexb.proofs.Cuts.{IsCutTo-kept, IsCutTo-cut, IsCutBy, IsCutBy-end, IsCutBy-none, IsCut-from_ranges, parts_at-only, ranges_in_range}
use Rattle.annexb.proofs.access_units.cut_units.Goals as goal
use Rattle.annexb.proofs.access_units.cut_units.Goals.{then-has_boundary+in_ok-push, else-has_boundary}

pub loop-at-preserved : goal.loop-at-preserved
loop-at-preserved c =
    let nals = c.args.nals.now in
    let loop = c.loop-at in
    let unit_is = get_or_read nals loop.at c.index-nals-at.result c.loop-at-test.true c.index-nals-at.is [] in
    elim c.if-has_boundary.branch [
      | then-has_boundary+in_ok-push w ↦
          let boundary : (loop.has_slice && begins_access_unit (get_or nals loop.at [])) ≡ true = rw unit_is at (sym w.if-has_boundary.ensures) in
          rw (w.start-is, w.has_slice-is, w.ranges-is, w.in_ok-push.ensures.items, c.is_slice-has_slice.ensures, unit_is) (IsCutTo-cut nals loop.at loop.start loop.has_slice loop.ranges.items loop.invariant c.loop-at-test.true boundary)
      | else-has_boundary w ↦
          let none : (loop.has_slice && begins_access_unit (get_or nals loop.at [])) ≡ false = rw unit_is at (sym w.if-has_boundary.ensures) in
          rw (w.start-is, w.has_slice-is, w.ranges-is, c.is_slice-has_slice.ensures, unit_is) (IsCutTo-kept nals loop.at loop.start loop.has_slice loop.ranges.items loop.invariant c.loop-at-test.true none)
    ]

-- no units, no ranges
none : (c : goal.Then-start-nals) → IsCutBy c.args.nals.now c.loop-at.ranges.items
none c = IsCutBy-none c.args.nals.now c.loop-at.at c.loop-at.start c.loop-at.has_slice c.loop-at.ranges.items c.loop-at.invariant (omega arith) (omega arith)

pub returns-then-start-nals-clause-cut : goal.returns-then-start-nals-clause-cut
returns-then-start-nals-clause-cut c = IsCut-from_ranges _ _ (none c)

pub returns-then-start-nals-clause-only : goal.returns-then-start-nals-clause-only
returns-then-start-nals-clause-only c = parts_at-only _ _ (none c)

pub returns-then-start-nals-clause-in_range : goal.returns-then-start-nals-clause-in_range
returns-then-start-nals-clause-in_range c = ranges_in_range _ _ (none c)

-- the last range is that of the open part
all : (c : goal.In_ok-push-2) → IsCutBy c.args.nals.now c.push-2.new.self.items
all c =
    let loop = c.loop-at in
    rw c.in_ok-push-2.ensures.items (IsCutBy-end c.args.nals.now loop.at loop.start loop.has_slice loop.ranges.items loop.invariant (omega (arith, loop.invariant.ordered)) (omega arith))

pub returns-clause-cut : goal.returns-clause-cut
returns-clause-cut c = IsCut-from_ranges _ _ (all c)

pub returns-clause-only : goal.returns-clause-only
returns-clause-only c = parts_at-only _ _ (all c)

pub returns-clause-consecutive : goal.returns-clause-consecutive
returns-clause-consecutive c = (all c).consecutive

pub returns-clause-in_range : goal.returns-clause-in_range
returns-clause-in_range c = ranges_in_range _ _ (all c)
