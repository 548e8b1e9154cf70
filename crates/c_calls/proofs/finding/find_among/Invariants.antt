use Rattle.std.proofs.Common.{All, take}
use Rattle.c_calls.specs.Finding.{HasPosition}
use Rattle.c_calls.proofs.finding.find_among.Given as goal

-- none of the units so far has the position
abbrev pub invariant-loop-index : goal.invariant-loop-index
invariant-loop-index l = All (λ id. HasPosition l.session.register.stream l.position id → ⊥) (take l.index l.ids)
