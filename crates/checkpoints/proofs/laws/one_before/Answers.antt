use Rattle.checkpoints.proofs.Members.{one_place, one_state}
use Rattle.checkpoints.proofs.laws.one_before.Goals as goal

pub returns-clause-place : goal.returns-clause-place
returns-clause-place g c states place p q s t b d = one_place states place p q s t b d

pub returns-clause-state : goal.returns-clause-state
returns-clause-state g c states place p q s t b d = one_state states place p q s t b d
