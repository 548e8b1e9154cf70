use Rattle.std.proofs.Common.{List, ℕ, ◌++◌, take}
use Rattle.std.specs.List.{flat_map}
use Rattle.sha2.specs.Hashers.{Holds256}
use Rattle.picture_keys.specs.Messages.{order_bytes}
use Rattle.picture_keys.proofs.request_bodies.feed_orders.Given as goal

-- the orders of the bodies so far were fed
abbrev pub invariant-loop-body : goal.invariant-loop-body
invariant-loop-body l =
    (message : List ℕ) → Holds256 l.initial.hasher message
    → Holds256 l.hasher (message ++ flat_map order_bytes (take l.body-index l.fn.bodies))
