use Rattle.std.proofs.Common.{◌≡◌, ℕ, ◌<◌, ◌≤◌, Some, slice_get}
use Rattle.picture_keys.proofs.changed_units.finding.greatest.Given as goal

-- none of the ids so far is greater
abbrev pub invariant-loop-id : goal.invariant-loop-id
invariant-loop-id l = (at id : ℕ) → at < l.id-index → slice_get l.ids at ≡ Some id → id ≤ l.most
