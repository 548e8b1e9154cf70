use Rattle.std.proofs.Common.{◌≡◌, ◌++◌, drop, length}
use Rattle.std.specs.List.{AllZip}
use Rattle.picture_keys.specs.Digests.{IsHashed}
use Rattle.picture_keys.proofs.units.pair.Given as goal

-- the units so far are there, and those that are left go with the digests that are left
abbrev pub invariant-loop-unit : goal.invariant-loop-unit
invariant-loop-unit l = record {
  so_far : l.hashed.items ++ l.unit-iterator.rest.items ≡ l.fn.units.items;
  left : AllZip (λ unit hash. IsHashed unit hash.digest.bytes hash.hashed) l.unit-iterator.rest.items (drop (length l.hashed.items) l.hashes.items);
}
