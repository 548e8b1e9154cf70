use Rattle.std.proofs.Common.{sym, subst}
use Rattle.picture_keys.specs.Units.{AreDifferent}
use Rattle.stream_edits.proofs.tests.changed.Goals as goal

-- src/tests.rt:61:8
pub change_of-requires-clause-different : goal.change_of-requires-clause-different
change_of-requires-clause-different c = subst AreDifferent (sym c.deref-2.ensures.value) c.requires.different
