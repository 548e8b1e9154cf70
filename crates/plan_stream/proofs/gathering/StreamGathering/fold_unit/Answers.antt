use Rattle.std.proofs.Common.{◌<◌, ◌≤◌, ℕ, List, length, arith}
use Rattle.access_unit.specs.StreamUnits.{most_units}
use Rattle.plan_stream.proofs.Gathers.{comes-past, comes-some, comes-taken}
use Rattle.plan_stream.proofs.gathering.StreamGathering.fold_unit.Goals as goal

pub returns-in-Some-clause-folded : goal.returns-in-Some-clause-folded
returns-in-Some-clause-folded g c = λ first text left front rest is has accepted comes.
    let old = c.args.self.now in
    comes-some (g.F.UnitFold.folds first) text left front rest is c.args.unit.now has accepted old.refusal old.count old.fold c.in-Some.is comes

pub returns-in-None-clause-folded : goal.returns-in-None-clause-folded
returns-in-None-clause-folded g c = λ first text left front rest is has accepted comes.
    let old = c.args.self.now in
    let room : (done : List (List (List ℕ))) → g.F.UnitFold.folds first done old.fold → length done < most_units =
    λ done folded. omega (arith, c.len.ensures.done first done folded) in
    comes-taken (g.F.UnitFold.folds first) text left front rest is c.args.unit.now has accepted old.refusal old.count old.fold _ c.add.result
    c.in-None.is room (c.add.ensures first) comes

pub returns-in-None-2-clause-folded : goal.returns-in-None-2-clause-folded
returns-in-None-2-clause-folded g c = λ first text left front rest is has accepted comes.
    let old = c.args.self.now in
    let full : (done : List (List (List ℕ))) → g.F.UnitFold.folds first done old.fold → most_units ≤ length done =
    λ done folded. omega (arith, c.len.ensures.done first done folded) in
    comes-past (g.F.UnitFold.folds first) text left front rest is c.args.unit.now has accepted old.refusal old.count old.fold c.in-None.is full comes
