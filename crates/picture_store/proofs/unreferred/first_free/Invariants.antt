use Rattle.std.proofs.Common.{All, take}
use Rattle.picture_store.specs.Unreferred.{IsFree}
use Rattle.picture_store.proofs.unreferred.first_free.Given as goal

abbrev pub invariant-loop-at : goal.invariant-loop-at
invariant-loop-at g l = All (λ picture. IsFree l.jobs picture → ⊥) (take l.at l.pictures)
