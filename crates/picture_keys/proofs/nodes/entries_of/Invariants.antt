use Rattle.std.proofs.Common.{◌≡◌, map, take}
use Rattle.picture_keys.specs.Numbered.{number_named}
use Rattle.picture_keys.proofs.nodes.entries_of.Given as goal

-- the numbers of the units so far
abbrev pub invariant-loop-unit : goal.invariant-loop-unit
invariant-loop-unit l =
    record {
      entries : l.entries.items ≡ map (number_named l.initial.numbers) (take l.unit-index l.unit-items);
      same : l.numbers ≡ l.initial.numbers;
    }
