use Rattle.std.proofs.Common.{◌≡◌, ◌++◌, drop}
use Rattle.std.specs.List.{flat_map}
use Rattle.param_sets.specs.SetCodes.{list_codes}
use Rattle.param_sets.proofs.cropping.codes.add_lists.Given as goal

-- those of the lists so far are added, and those of the lists that are left follow
abbrev pub invariant-loop-list : goal.invariant-loop-list
invariant-loop-list l =
    l.initial.codes.items ++ flat_map list_codes l.lists ≡ l.codes.items ++ flat_map list_codes (drop l.list-index l.lists)
