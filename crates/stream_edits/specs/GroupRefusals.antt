-- Why a group of edits is refused: the first reason that holds, or that memory was.
use Rattle.std.specs.Prelude.{◌≡◌, ℕ, ◌<◌, List, [], length, take, Some, slice_get, codes, ⊤}
use Rattle.stream_edits.specs.declared.edits.Edit.{Edit}
use Rattle.stream_edits.specs.declared.refusals.EditRefused.{EditRefused}
use Rattle.stream_edits.specs.declared.refusals.EditRefused.TheVariants as refusals
use Rattle.stream_edits.specs.declared.group_refused.GroupRefused.{GroupRefused}
use Rattle.stream_edits.specs.declared.group_refused.GroupRefused.TheVariants as groups
use Rattle.stream_edits.specs.Edits.{Register}
use Rattle.stream_edits.specs.Groups.{IsSized, MakesAll, most_edits}
use Rattle.stream_edits.specs.Names.{name_of}
use Rattle.stream_edits.specs.Numbers.{number_of}
use Rattle.stream_edits.specs.Refusals.{IsRefused}

-- the edits before the one at the index are accepted, and that one is refused so
pub record IsRefusedAt (old : Register) (edits : List Edit) (index : ℕ) (why : EditRefused) : Type 0 where
  pub edit : Edit
  pub stands : slice_get edits index ≡ Some edit
  pub ids : List ℕ
  pub before : Register
  pub accepted : MakesAll old (take index edits) ids before
  pub refused : IsRefused before edit why

-- one of the edits is refused so, or memory is
abbrev pub IsRefusedAmong : Register → List Edit → GroupRefused → Type 0
IsRefusedAmong old edits (groups.Edit index refused) = (refused ≡ refusals.Memory → ⊥) × IsRefusedAt old edits index refused
IsRefusedAmong old edits groups.Memory = ⊤
IsRefusedAmong old edits refused = ⊥

-- the group is refused so; one of a size that may be may run out of memory
abbrev pub IsGroupRefused : Register → List Edit → GroupRefused → Type 0
IsGroupRefused old edits groups.Empty = edits ≡ []
IsGroupRefused old edits groups.TooLarge = most_edits < length edits
IsGroupRefused old edits (groups.Edit index refused) =
    IsSized edits × (refused ≡ refusals.Memory → ⊥) × IsRefusedAt old edits index refused
IsGroupRefused old edits groups.Memory = IsSized edits

-- edits of which there may be so many aren't taken as a group, whatever the stream is
abbrev pub IsUntaken : ℕ → List Edit → GroupRefused → Type 0
IsUntaken most edits groups.Empty = edits ≡ []
IsUntaken most edits groups.TooLarge = most < length edits
IsUntaken most edits (groups.Edit index refused) = ⊥
IsUntaken most edits groups.Memory = ⊤

-- the refusal of a group whose edit at the index is refused so
abbrev pub refusal_at : ℕ → EditRefused → GroupRefused
refusal_at index refusals.Memory = groups.Memory
refusal_at index refused = groups.Edit index refused

-- the number that is printed
abbrev pub number_of_group : GroupRefused → ℕ
number_of_group groups.Empty = 20
number_of_group groups.TooLarge = 21
number_of_group (groups.Edit index refused) = number_of refused
number_of_group groups.Memory = 15

-- the name that is printed
abbrev pub name_of_group : GroupRefused → List ℕ
name_of_group groups.Empty = codes "EmptyGroup"
name_of_group groups.TooLarge = codes "GroupTooLarge"
name_of_group (groups.Edit index refused) = name_of refused
name_of_group groups.Memory = codes "Memory"
