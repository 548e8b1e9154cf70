use Rattle.std.proofs.Common.{◌≡◌, ℕ, ◌+◌, ◌≤◌, ◌++◌, ◌↔◌, List, length, take, Contains}
use Rattle.picture_keys.specs.Units.{ComparedUnit, units_in}
use Rattle.picture_keys.specs.Ranges.{IsLeast}
use Rattle.picture_keys.proofs.changed_units.widening.widen.Given as goal

-- the range is the least one for the units so far
abbrev pub invariant-loop-index : goal.invariant-loop-index
invariant-loop-index l =
    record {
      behind : l.changed.from + l.changed.count ≤ l.at + l.index;
      least : (all front : List (ComparedUnit ℕ)) → length front ≡ l.at
          → ((unit : ComparedUnit ℕ) → Contains (units_in l.after) unit
          → Contains all unit ↔ Contains (units_in l.before) unit)
          → IsLeast all front l.fn.changed → IsLeast all (front ++ take l.index (units_in l.after)) l.changed;
    }
