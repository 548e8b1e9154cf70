use Rattle.std.proofs.Common.{◌≡◌, ◌++◌, map, take}
use Rattle.decode_jobs.specs.Keys.{unit_named}
use Rattle.picture_keys.proofs.named.add_list.Given as goal

-- the units at the entries so far were added
abbrev pub invariant-loop-entry : goal.invariant-loop-entry
invariant-loop-entry l =
    l.units.items ≡ l.initial.units.items ++ map (unit_named l.references) (take l.entry-index l.list)
