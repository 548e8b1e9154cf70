-- Why no group is answered.
use Rattle.std.specs.Prelude.{◌≡◌, ℕ, ◌<◌, ⊤}
use Rattle.edit_history.specs.declared.refusals.NotUndone.{NotUndone}
use Rattle.edit_history.specs.declared.refusals.NotUndone.TheVariants.{Nothing, IdsSpent, Unfit, Memory}
use Rattle.stream_edits.specs.Edits.{most_ids}

-- a group after which so many ids are given at most is refused so
abbrev pub IsRefusedFor : ℕ → NotUndone → Type 0
IsRefusedFor ids Nothing = ⊥
IsRefusedFor ids IdsSpent = most_ids < ids
IsRefusedFor ids Unfit = ⊤
IsRefusedFor ids Memory = ⊤

-- nothing is there of the steps that are counted, or there is something and it is refused so
abbrev pub IsNotUndone : ℕ → NotUndone → Type 0
IsNotUndone steps Nothing = steps ≡ 0
IsNotUndone steps IdsSpent = 0 < steps
IsNotUndone steps Unfit = 0 < steps
IsNotUndone steps Memory = 0 < steps
