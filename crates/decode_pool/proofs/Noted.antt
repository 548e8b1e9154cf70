-- The ids that a group is answered.
use Rattle.std.proofs.Common.{◌≡◌, ℕ, suc, List, [], ◌∷◌, length, refl, ap}
use Rattle.stream_edits.specs.declared.edits.Edit.{Edit}
use Rattle.stream_edits.specs.Edits.{Register}
use Rattle.stream_edits.specs.Groups.{MakesAll}

-- there are as many as edits
pub length-ids : (from : Register) (edits : List Edit) (ids : List ℕ) (to : Register) → MakesAll from edits ids to
    → length ids ≡ length edits
length-ids from [] [] to all = refl
length-ids from [] (id ∷ ids) to all = absurd all
length-ids from (edit ∷ edits) [] to all = absurd all
length-ids from (edit ∷ edits) (id ∷ ids) to all = ap (λ (n : ℕ). suc n) (length-ids all.0 edits ids to all.2)
