use Rattle.std.proofs.Common.{arith}
use Rattle.stream_edits.proofs.ReadAs.{IsOf-read, refused_ids, refused_many}
use Rattle.stream_edits.proofs.snapshots.snapshot.Snapshot.read.Goals as goal

pub returns-then-texts-gt-MOST_UNITS-clause-err : goal.returns-then-texts-gt-MOST_UNITS-clause-err
returns-then-texts-gt-MOST_UNITS-clause-err c =
    refused_many c.args.self.now c.units-texts.result.now c.units-texts.ensures (omega arith)

pub returns-then-not-branch-clause-err : goal.returns-then-not-branch-clause-err
returns-then-not-branch-clause-err c =
    refused_ids c.args.self.now c.units-texts.result.now c.ids_given-ids_given.result c.in_ok-are_ids.field-0 c.units-texts.ensures
    c.ids_given-ids_given.ensures c.in_ok-are_ids.ensures c.if-not-branch.true

pub invariant_of-result : goal.invariant_of-result
invariant_of-result c = (
  c.args.self.now,
  IsOf-read c.args.self.now c.units-texts.result.now c.ids_given-ids_given.result c.in_ok-units.units.items c.units-texts.ensures
      c.ids_given-ids_given.ensures (omega arith) (c.in_ok-are_ids.ensures.0 c.if-not-branch.false) c.in_ok-units.ensures.ok,
)

pub returns-clause-ok : goal.returns-clause-ok
returns-clause-ok c =
    IsOf-read c.args.self.now c.units-texts.result.now c.ids_given-ids_given.result c.in_ok-units.units.items c.units-texts.ensures
    c.ids_given-ids_given.ensures (omega arith) (c.in_ok-are_ids.ensures.0 c.if-not-branch.false) c.in_ok-units.ensures.ok
