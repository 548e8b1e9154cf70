use Rattle.std.proofs.Common.{take}
use Rattle.picture_store.specs.Unreferred.{AreOthers}
use Rattle.picture_store.proofs.unreferred.are_others.Given as goal

abbrev pub invariant-loop-reference : goal.invariant-loop-reference
invariant-loop-reference g l = AreOthers (take l.reference-index l.references) l.picture
