-- Edits that are made together, as one step.
use Rattle.std.specs.Prelude.{◌≡◌, ℕ, ◌-◌, ◌<◌, ◌≤◌, List, [], ◌∷◌, length}
use Rattle.access_unit.specs.StreamUnits.{most_units}
use Rattle.stream_edits.specs.declared.accepting.AcceptedGroup.{AcceptedGroup}
use Rattle.stream_edits.specs.declared.edits.Edit.{Edit}
use Rattle.stream_edits.specs.Edits.{Register, Makes}
use Rattle.stream_edits.specs.Changes.{IsInside, at_of, rest_from, after, stream_after}
use Rattle.stream_edits.specs.Common.{IsLongestFront, IsLongestRest}

-- how many edits a group has at most that is asked for
abbrev pub most_edits : ℕ
most_edits = 1024

-- edits that are made together are one at least, and no more than the units that a stream may have
abbrev pub IsSized : List Edit → Type 0
IsSized edits = (0 < length edits) × (length edits ≤ most_units)

-- the edits, each accepted after those before it, are about these ids and lead from one to the
-- other
abbrev pub MakesAll : Register → List Edit → List ℕ → Register → Type 0
MakesAll from [] [] to = from ≡ to
MakesAll from (edit ∷ edits) (id ∷ ids) to = (next : Register) × Makes from edit id next × MakesAll next edits ids to
MakesAll from [] (id ∷ ids) to = ⊥
MakesAll from (edit ∷ edits) [] to = ⊥

-- the change is what the edits come to; it begins past the longest front that the streams before
-- and after it have in common, and takes in all up to the longest rest that they have in common
-- behind that
pub record IsForAll (old : Register) (edits : List Edit) (accepted : AcceptedGroup) : Type 0 where
  pub sized : IsSized edits
  pub inside : IsInside accepted.change old.stream
  pub makes : MakesAll old edits accepted.ids.items (after accepted.change accepted.ids_given old.stream)
  pub front : IsLongestFront old.stream (stream_after accepted.change old.stream) (at_of accepted.change)
  pub rest : IsLongestRest (at_of accepted.change) old.stream (stream_after accepted.change old.stream)
      (length old.stream - rest_from accepted.change)
