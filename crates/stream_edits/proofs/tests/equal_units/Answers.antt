use Rattle.std.proofs.Common.{sym, subst}
use Rattle.picture_keys.specs.Units.{AreDifferent}
use Rattle.stream_edits.proofs.GivenIds.{AreDifferent-ids}
use Rattle.stream_edits.proofs.tests.equal_units.Goals as goal

-- src/tests.rt:39:1
pub returns-clause-different : goal.returns-clause-different
returns-clause-different c c' =
    subst AreDifferent (sym c'.loop-ids_given.invariant.1)
    (AreDifferent-ids (record { ids_given = c'.loop-ids_given.ids_given; stream = c'.loop-ids_given.units.0.items }) c'.loop-ids_given.invariant.0)
