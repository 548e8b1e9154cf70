use Rattle.std.proofs.Common.{List, ℕ, ◌++◌, take}
use Rattle.std.specs.List.{flat_map}
use Rattle.sha2.specs.Hashers.{Holds256}
use Rattle.stand_in_device.specs.Pictures.{entry_bytes}
use Rattle.stand_in_device.proofs.records.feed_list.Given as goal

-- the pictures of the entries so far were fed
abbrev pub invariant-loop-entry : goal.invariant-loop-entry
invariant-loop-entry l =
    (m : List ℕ) → Holds256 l.initial.hasher m
    → Holds256 l.hasher (m ++ flat_map (entry_bytes l.fn.references l.fn.units) (take l.entry-index l.fn.entries))
